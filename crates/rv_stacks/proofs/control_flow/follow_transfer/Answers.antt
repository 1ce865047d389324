-- With a call the walk comes to the caller and then to what is called; without one it goes on where control leads.
use Rattle.std.proofs.Common.{◌≡◌, ◌∙◌, ◌+◌, ◌<◌, ◌≤◌, ◌++◌, ◌∷◌, [], ℕ, List, Result, Ok, Err, OnOk, length, take, ap, subst, arith}
use Rattle.rv_calls.specs.declared.frames.Frame.{Frame}
use Rattle.rv_calls.specs.Stack.{after_transfer, remaining_depth}
use Rattle.rv_stacks.specs.Walks.{Enters}
use Rattle.rv_stacks.specs.Stacks.{function_at}
use Rattle.rv_stacks.specs.StackSteps.{ContinuesIn}
use Rattle.rv_stacks.proofs.Paths.{follows_call, follows_jump, is_call, is_jump}
use Rattle.rv_stacks.proofs.control_flow.follow_transfer.Goals as goal

mapped : {A E : Type 0} (r : Result A E) (P Q : Type 0) → OnOk r P → (P → Q) → OnOk r Q
mapped (Ok x) P Q h f = f h
mapped (Err x) P Q h f = h

pub returns-in_ok-continue_in-clause-walk : goal.returns-in_ok-continue_in-clause-walk
returns-in_ok-continue_in-clause-walk c =
    let function = function_at c.args.symbols.now.image.now c.args.symbols.now.bytes.now in
    let frames = c.args.frames.now.items in
    let t = c.args.transfer in
    let mid = c.continue_in.new.walk in
    let new = c.enter.new.self in
    let caller = c.look_up_function-caller.result in
    let called = c.look_up_function-function.result in
    let remaining : c.remaining_frames-remaining.result ≡ remaining_depth t.action t.to t.sp frames =
    c.remaining_frames-remaining.ensures ∙ ap (λ (fs : List Frame). remaining_depth t.action t.to t.sp fs) c.as_slice.ensures.value in
    let long = ap length c.in_ok-apply_transfer.ensures in
    let more : remaining_depth t.action t.to t.sp frames < length (after_transfer frames t) =
    let less = c.if-remaining-len.true in let len = c.len.ensures in omega (arith, less, len, remaining, long) in
    mapped c.enter.result _ _ c.enter.ensures
    (λ (arrives : Enters (take (c.remaining_frames-remaining.result + 1) mid.path.items ++ called ∷ []) mid new).
    follows_call function frames t (is_call frames t more) c.args.walk.now mid new caller called c.requires.at
    (subst (λ (n : ℕ). ContinuesIn n caller c.args.walk.now mid) remaining c.in_ok-continue_in.ensures)
    c.look_up_function-caller.ensures.value c.look_up_function-function.ensures.value
    (subst (λ (n : ℕ). Enters (take (n + 1) mid.path.items ++ called ∷ []) mid new) remaining arrives))

pub returns-else-remaining-len-clause-walk : goal.returns-else-remaining-len-clause-walk
returns-else-remaining-len-clause-walk c =
    let function = function_at c.args.symbols.now.image.now c.args.symbols.now.bytes.now in
    let frames = c.args.frames.now.items in
    let t = c.args.transfer in
    let new = c.continue_in-else-remaining-len.new.walk in
    let there = c.look_up_function-function-else-remaining-len.result in
    let remaining : c.remaining_frames-remaining.result ≡ remaining_depth t.action t.to t.sp frames =
    c.remaining_frames-remaining.ensures ∙ ap (λ (fs : List Frame). remaining_depth t.action t.to t.sp fs) c.as_slice.ensures.value in
    let long = ap length c.in_ok-apply_transfer.ensures in
    let less : length (after_transfer frames t) ≤ remaining_depth t.action t.to t.sp frames =
    let over = c.if-remaining-len.false in let len = c.len.ensures in omega (arith, over, len, remaining, long) in
    mapped c.continue_in-else-remaining-len.result _ _ c.continue_in-else-remaining-len.ensures
    (λ (on : ContinuesIn c.remaining_frames-remaining.result there c.args.walk.now new).
    follows_jump function frames t (is_jump frames t less) c.args.walk.now new there c.requires.at
    (subst (λ (n : ℕ). ContinuesIn n there c.args.walk.now new) remaining on) c.look_up_function-function-else-remaining-len.ensures.value)
