-- What leads the line, its places, and its end.
use Rattle.std.proofs.Common.{◌∙◌, ◌++◌, codes}
use Rattle.rv_calls.specs.CallsLine.{calls_line, call_addresses_text}
use Rattle.rv_calls.proofs.Told.{ended_line}
use Rattle.rv_calls.proofs.calls_line.push_calls_line.Goals as goal

pub returns : goal.returns
unfolding calls_line
returns c =
    let image = c.args.elf.now.image.now in
    let file = c.args.elf.now.bytes.now in
    ended_line c.push_text-2.result c.args.bytes.now.items (codes "     calls: ")
    (call_addresses_text image file c.args.pc c.args.frames.now) (codes "\n") c.push_call_addresses.new.bytes.items
    c.push_text-2.new.bytes.items c.push_text-2.ensures
    (c.in_ok-push_call_addresses.ensures
    ∙ (λ i. c.in_ok-push_text.ensures i ++ call_addresses_text image file c.args.pc (c.as_slice.ensures i)))
