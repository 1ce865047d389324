use Rattle.std.proofs.Common.{◌∙◌, sym}
use Rattle.std.specs.FinMap as fin
use Rattle.rv_history.proofs.stops.Watch.push_bytes.Goals as goal
use Rattle.rv_history.proofs.stops.Watch.push_bytes.Goals.{in-Some+in_ok-push, in_default}
use Rattle.rv_history.proofs.Bytes.{bytes_more_none, bytes_more_some}

pub loop-offset-preserved : goal.loop-offset-preserved
loop-offset-preserved c =
    let before = c.args.bytes.now.items in
    let byte_of = fin.get c.args.bus.now.memory in
    let address = c.args.self.now.address in
    let offset = c.loop-offset.offset in
    elim c.match-byte.branch [
      | in-Some+in_ok-push w ↦ rw w.bytes-is (w.in_ok-push.ensures.items ∙ bytes_more_some byte_of address offset w.in-Some.byte before
          c.loop-offset.bytes.items (sym w.in-Some.is ∙ c.byte.ensures) c.loop-offset.invariant)
      | in_default w ↦ rw w.bytes-is (bytes_more_none byte_of address offset before c.loop-offset.bytes.items
          (sym w.in_default.is ∙ c.byte.ensures) c.loop-offset.invariant)
    ]
