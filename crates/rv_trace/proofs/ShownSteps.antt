-- A trace shows the end of a run.
use Rattle.std.proofs.Common.{◌≡◌, ◌∙◌, ◌<◌, ◌+◌, ◌-◌, ℕ, sym, ap, arith, get_or, length, min, zero-add}
use Rattle.std.proofs.lemmas.List.FromFn.{get_or-map-range_with_len, length-map-range_with_len}
use Rattle.rv_machine.specs.Run.{run_of}
use Rattle.rv_machine.specs.State.{State, register}
use Rattle.rv_trace.specs.declared.step.TracedStep.{TracedStep}
use Rattle.rv_trace.specs.Code.{code_at}
use Rattle.rv_trace.specs.ShownSteps.{IsEndOfRun, ShowsEndOfRun}
use Rattle.rv_trace.specs.Steps.{steps_from, traced_step}
use Rattle.rv_trace.specs.Trace.{state_after, registers_of, trace_of}
use Rattle.rv_trace.proofs.Runs.{after_more, completes, each_completes, ends, line_at, lines_count, same_end}
use Rattle.rv_trace.proofs.Runs.{steps_more}

pub parse_register : (s : State) (n : ℕ) → n < 32 → get_or (registers_of s) n 0 ≡ register s n
unfolding registers_of
parse_register s n h = get_or-map-range_with_len (register s) 0 32 n n 0 h (zero-add n)

pub registers_count : (s : State) → length (registers_of s) ≡ 32
unfolding registers_of
registers_count s = length-map-range_with_len (register s) 0 32

module _ (budget last : ℕ) (s : State) where
  module _ (front shown : ℕ) (is : front + shown ≡ (run_of budget s).steps) where
    in_front : (run_of front s).steps ≡ front
    in_front = completes budget front s (omega arith)

    all_shown : (run_of shown (state_after front s)).steps ≡ shown
    all_shown = let whole = completes budget (front + shown) s (omega arith) in
        let more = steps_more front shown s in_front in omega arith

    end_is : state_after shown (state_after front s) ≡ (run_of budget s).state
    end_is = sym (after_more front shown s in_front) ∙ ap (λ k. state_after k s) is ∙ same_end budget s

    one_line : (k : ℕ) (d : TracedStep) → k < shown
        → get_or (steps_from shown (state_after front s)) k d ≡ traced_step (state_after (front + k) s) (state_after (front + k + 1) s)
    one_line k d h =
        let within : k < (run_of shown (state_after front s)).steps = rw all_shown h in
        let next : front + k + 1 ≡ front + (k + 1) = omega arith in
        line_at shown k (state_after front s) d within
        ∙ (λ i. traced_step (sym (after_more front k s in_front) i)
        ((sym (after_more front (k + 1) s in_front) ∙ ap (λ m. state_after m s) (sym next)) i))

  pub shows : ShowsEndOfRun (trace_of (run_of budget s).steps last s) last (run_of budget s) s
  unfolding trace_of
  shows =
      let shown = min (run_of budget s).steps last in
      let front = (run_of budget s).steps - shown in
      let is : front + shown ≡ (run_of budget s).steps = omega arith in
      let end = end_is front shown is in
      record {
        pc = ap (λ t. t.pc) end;
        code = ap (λ t. code_at t.bus t.pc) end;
        registers = λ n h. parse_register (state_after shown (state_after front s)) n h ∙ ap (λ t. register t n) end;
        count = lines_count shown (state_after front s) ∙ all_shown front shown is;
        lines = one_line front shown is;
      }

pub ends_there : (budget : ℕ) (s : State) → IsEndOfRun (run_of budget s) s
ends_there budget s = record {
  completed = λ k h. each_completes budget k s h;
  ended = ends budget s;
}
