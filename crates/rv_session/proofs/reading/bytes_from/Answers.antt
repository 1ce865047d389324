use Rattle.std.proofs.Common.{◌<◌, ◌≤◌, ◌∙◌, arith, sym}
use Rattle.std.specs.FinMap as fin
use Rattle.rv_session.specs.Memory.{bytes_requested, bytes_from}
use Rattle.rv_session.proofs.Looking.{read_all, read_more, read_start, read_to_hole}
use Rattle.rv_session.proofs.reading.bytes_from.Goals as goal

pub loop-offset-init : goal.loop-offset-init
unfolding bytes_from
loop-offset-init c =
    read_start (fin.get c.args.bus.now.memory) c.args.range.address (bytes_requested c.args.range) c.new-bytes.result.items
    c.new-bytes.ensures.items

pub loop-offset-preserved : goal.loop-offset-preserved
loop-offset-preserved c =
    let within : c.loop-offset.offset < bytes_requested c.args.range = omega (arith, c.bytes_requested-count.ensures) in
    rw c.in_ok-push-in-Some.ensures.items
    (read_more (fin.get c.args.bus.now.memory) c.args.range.address c.loop-offset.offset (bytes_requested c.args.range)
    c.in-Some.byte c.loop-offset.bytes.items (bytes_from c.args.bus.now c.args.range) within
    (sym c.in-Some.is ∙ c.byte.ensures) c.loop-offset.invariant)

pub returns-in-None : goal.returns-in-None
returns-in-None c =
    let within : c.loop-offset.offset < bytes_requested c.args.range = omega (arith, c.bytes_requested-count.ensures) in
    read_to_hole (fin.get c.args.bus.now.memory) c.args.range.address c.loop-offset.offset (bytes_requested c.args.range)
    c.loop-offset.bytes.items (bytes_from c.args.bus.now c.args.range) within (sym c.in-None.is ∙ c.byte.ensures)
    c.loop-offset.invariant

pub returns : goal.returns
returns c =
    let done : bytes_requested c.args.range ≤ c.loop-offset.offset = omega (arith, c.bytes_requested-count.ensures) in
    read_all (fin.get c.args.bus.now.memory) c.args.range.address c.loop-offset.offset (bytes_requested c.args.range)
    c.loop-offset.bytes.items (bytes_from c.args.bus.now c.args.range) done c.loop-offset.invariant
