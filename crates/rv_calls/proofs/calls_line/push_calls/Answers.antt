-- From call to call, the innermost first.
use Rattle.std.proofs.Common.{◌∙◌, ◌<◌, ◌≤◌, ◌++◌, List, length, ap, arith}
use Rattle.std.specs.List.{flat_map}
use Rattle.rv_calls.specs.declared.frames.Frame.{Frame}
use Rattle.rv_calls.specs.CallsLine.{call_text, max_shown}
use Rattle.rv_calls.proofs.Told.{one_told, all_told}
use Rattle.rv_calls.proofs.calls_line.push_calls.Goals as goal

pub loop-n-preserved : goal.loop-n-preserved
loop-n-preserved c =
    let inside : c.loop-n.n < length c.args.frames.now =
    let below = c.loop-n-test.true in let end = c.min-n-end.ensures in omega (arith, below, end) in
    one_told (call_text c.args.elf.now.image.now c.args.elf.now.bytes.now) c.args.frames.now c.loop-n.n _
    c.args.bytes.now.items c.loop-n.bytes.items c.push_call.new.bytes.items inside c.loop-n.invariant
    c.in_ok-push_call.ensures

pub returns : goal.returns
returns c =
    let end = c.min-n-end.ensures in
    let most : c.loop-n.n ≤ max_shown = let within = c.loop-n.auto.n-end in omega (arith, within, end) in
    let all : c.loop-n.n < max_shown → length c.args.frames.now ≤ c.loop-n.n =
    λ less. let over = c.loop-n-test.false in omega (arith, over, end, less) in
    c.loop-n.invariant
    ∙ ap (λ (fs : List Frame). c.args.bytes.now.items ++ flat_map (call_text c.args.elf.now.image.now c.args.elf.now.bytes.now) fs)
    (all_told c.args.frames.now c.loop-n.n max_shown most all)
