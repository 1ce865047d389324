-- The functions of a walk that goes with control.
use Rattle.std.proofs.Common.{◌≡◌, ◌∙◌, ◌==◌, ◌+◌, ◌-◌, ◌<◌, ◌≤◌, ◌&&◌, ℕ, Bool, true, false, not, cond, List, [], ◌∷◌, ◌++◌, length, map, take, get_or, sym, ap, arith, inl, inr, length-append}
use Rattle.std.proofs.lemmas.Bool.{cases_Bool, cases_lt}
use Rattle.std.proofs.lemmas.List.{get_or-map, get_or_append_left, get_or_past, length-map, length-take-le, map-append, take-append-le, take-map, take_all}
use Rattle.std.proofs.Math.Seq.{get_or-append_seam}
use Rattle.std.specs.Str.{bytes_eq}
use Rattle.rv_calls.specs.declared.action.StackAction.{StackAction}
use Rattle.rv_calls.specs.declared.action.StackAction.TheVariants as action
use Rattle.rv_calls.specs.declared.frames.Frame.{Frame}
use Rattle.rv_calls.specs.declared.transfer.Transfer.{Transfer}
use Rattle.rv_calls.specs.Stack.{after_transfer, depth_below, remaining_depth, depth_up_to_return, frame_of, is_pushed, after_pop}
use Rattle.rv_counting.specs.Coverage.{address_if}
use Rattle.rv_stacks.specs.declared.walk.Walk.{Walk}
use Rattle.rv_stacks.specs.Walks.{Enters}
use Rattle.rv_stacks.specs.Stacks.{address_after_pops, calls_to, continues_at, jumps_to, path_at}
use Rattle.rv_stacks.specs.StackSteps.{FollowsTransfer, ContinuesIn, IsAt}

-- ---- what is left of frames

below_all : (test : Frame → Bool) (frames : List Frame) → depth_below test frames ≤ length frames
below_all test frames = omega arith

after_return : (b : Bool) (up above all : ℕ) → up ≤ all → above ≤ all → cond b above (up - 1) ≤ all
after_return true up above all h k = k
after_return false up above all h k = omega arith

left_of_action : (a : StackAction) (to sp : ℕ) (frames : List Frame) → remaining_depth a to sp frames ≤ length frames
left_of_action action.NoEffect to sp frames = omega arith
left_of_action action.Push to sp frames = omega arith
left_of_action action.Pop to sp frames =
    after_return (depth_up_to_return to frames == 0) (depth_up_to_return to frames) _ (length frames) (omega arith) (omega arith)
left_of_action action.PopThenPush to sp frames =
    after_return (depth_up_to_return to frames == 0) (depth_up_to_return to frames) _ (length frames) (omega arith) (omega arith)

module _ (function : ℕ → ℕ) (frames : List Frame) (t : Transfer) where
  abbrev remaining : ℕ
  remaining = remaining_depth t.action t.to t.sp frames

  abbrev callers : List Frame → List ℕ
  callers fs = map (λ f. function f.call) fs

  within : remaining ≤ length frames
  within = left_of_action t.action t.to t.sp frames

  long_popped : length (after_pop frames t) ≡ remaining
  long_popped = length-take-le remaining frames within

  -- the functions of the callers that are left
  first_left : (pc : ℕ) → take remaining (path_at function frames pc) ≡ callers (after_pop frames t)
  first_left pc =
      let long = length-map frames (λ (f : Frame). function f.call) in
      let w = within in
      take-append-le remaining (callers frames) (function pc ∷ []) (omega (arith, long, w))
      ∙ take-map (λ (f : Frame). function f.call) remaining frames

  -- behind them stands the function where control is back
  back_there : get_or (path_at function frames t.from) remaining 0 ≡ function (address_after_pops frames t)
  back_there =
      let long = length-map frames (λ (f : Frame). function f.call) in
      let w = within in
      let at = ap (λ (n : ℕ). function (get_or frames n (frame_of t)).call) (sym long_popped) in
      elim (cases_lt remaining (length frames)) [
        | inl inside ↦
            get_or_append_left (callers frames) (function t.from ∷ []) 0 remaining (omega (arith, long, inside))
            ∙ get_or-map (λ (f : Frame). function f.call) frames remaining (frame_of t) 0 inside ∙ at
        | inr over ↦
            let all : remaining ≡ length (callers frames) = omega (arith, long, w, over) in
            ap (λ (n : ℕ). get_or (path_at function frames t.from) n 0) all
            ∙ get_or-append_seam (callers frames) (function t.from) [] 0
            ∙ ap (λ (f : Frame). function f.call) (sym (get_or_past frames remaining (frame_of t) over)) ∙ at
      ]

  -- ---- with a call

  module _ (calls : is_pushed (after_pop frames t) t ≡ true) where
    after_call : after_transfer frames t ≡ after_pop frames t ++ frame_of t ∷ []
    unfolding after_transfer
    after_call = ap (λ (b : Bool). cond b (after_pop frames t ++ frame_of t ∷ []) (after_pop frames t)) calls

    at_call : continues_at frames t ≡ t.from
    at_call = ap (λ (b : Bool). cond b t.from t.to) calls

    path_of_call : path_at function (after_transfer frames t) t.to ≡ path_at function (after_pop frames t) t.from ++ function t.to ∷ []
    path_of_call =
        ap (λ (fs : List Frame). path_at function fs t.to) after_call
        ∙ ap (λ (fs : List ℕ). fs ++ function t.to ∷ []) (map-append (λ (f : Frame). function f.call) (after_pop frames t) (frame_of t ∷ []))

    pub follows_call : (old mid new : Walk) (caller called : ℕ) → IsAt function frames t.from old → ContinuesIn remaining caller old mid
        → caller ≡ function t.from → called ≡ function t.to
        → Enters (take (remaining + 1) mid.path.items ++ called ∷ []) mid new → FollowsTransfer function frames t old new
    follows_call old mid new caller called at on from to arrives =
        let path = path_at function (after_pop frames t) t.from in
        let came : take remaining old.path.items ++ caller ∷ [] ≡ path =
        λ i. (ap (take remaining) at.path ∙ first_left t.from) i ++ from i ∷ [] in
        let mid_path : mid.path.items ≡ path = on.path ∙ came in
        let long : length path ≡ remaining + 1 =
        let a = length-append (callers (after_pop frames t)) (function t.from ∷ []) in
        let b = length-map (after_pop frames t) (λ (f : Frame). function f.call) in
        let c = long_popped in omega (arith, a, b, c) in
        let whole : take (remaining + 1) mid.path.items ≡ path =
        ap (take (remaining + 1)) mid_path ∙ take_all (remaining + 1) path (omega (arith, long)) in
        let behind : take (remaining + 1) mid.path.items ++ called ∷ [] ≡ path_at function (after_transfer frames t) t.to =
        (λ i. whole i ++ to i ∷ []) ∙ sym path_of_call in
        let back : get_or old.path.items remaining 0 ≡ function (address_after_pops frames t) =
        ap (λ (p : List ℕ). get_or p remaining 0) at.path ∙ back_there in
        let next : caller ≡ function (continues_at frames t) = from ∙ ap function (sym at_call) in
        let went : take remaining old.path.items ++ caller ∷ [] ≡ path_at function (after_pop frames t) (continues_at frames t) =
        came ∙ ap (path_at function (after_pop frames t)) (sym at_call) in record {
          at = record { walk = arrives.walk; path = arrives.path ∙ behind };
          calls = λ at_path.
              let a = on.calls at_path in
              let b = arrives.calls at_path in
              let jump : address_if (not (get_or old.path.items remaining 0 == caller)
              && bytes_eq (take remaining old.path.items ++ caller ∷ []) at_path) ≡ address_if (jumps_to function at_path frames t) =
              λ i. address_if (not (back i == next i) && bytes_eq (went i) at_path) in
              let call : address_if (bytes_eq (take (remaining + 1) mid.path.items ++ called ∷ []) at_path)
              ≡ address_if (calls_to function at_path frames t) =
              ap (λ (p : List ℕ). address_if (bytes_eq p at_path)) behind
              ∙ ap (λ (b : Bool). address_if (b && bytes_eq (path_at function (after_transfer frames t) t.to) at_path)) (sym calls) in
              omega (arith, a, b, jump, call);
          steps = λ at_path. arrives.steps at_path ∙ on.steps at_path;
          own = λ f. arrives.own f ∙ on.own f;
          few = (let a = on.few in let b = arrives.all_calls in omega (arith, a, b));
          all_steps = arrives.all_steps ∙ on.all_steps;
        }

  -- ---- without

  module _ (jumps : is_pushed (after_pop frames t) t ≡ false) where
    after_jump : after_transfer frames t ≡ after_pop frames t
    unfolding after_transfer
    after_jump = ap (λ (b : Bool). cond b (after_pop frames t ++ frame_of t ∷ []) (after_pop frames t)) jumps

    at_jump : continues_at frames t ≡ t.to
    at_jump = ap (λ (b : Bool). cond b t.from t.to) jumps

    pub follows_jump : (old new : Walk) (function_to : ℕ) → IsAt function frames t.from old → ContinuesIn remaining function_to old new
        → function_to ≡ function t.to → FollowsTransfer function frames t old new
    follows_jump old new function_to at on to =
        let came : take remaining old.path.items ++ function_to ∷ [] ≡ path_at function (after_pop frames t) t.to =
        λ i. (ap (take remaining) at.path ∙ first_left t.from) i ++ to i ∷ [] in
        let back : get_or old.path.items remaining 0 ≡ function (address_after_pops frames t) =
        ap (λ (p : List ℕ). get_or p remaining 0) at.path ∙ back_there in
        let next : function_to ≡ function (continues_at frames t) = to ∙ ap function (sym at_jump) in
        let went : take remaining old.path.items ++ function_to ∷ [] ≡ path_at function (after_pop frames t) (continues_at frames t) =
        came ∙ ap (path_at function (after_pop frames t)) (sym at_jump) in record {
          at = record {
            walk = on.walk;
            path = on.path ∙ came ∙ ap (λ (fs : List Frame). path_at function fs t.to) (sym after_jump);
          };
          calls = λ at_path.
              let a = on.calls at_path in
              let jump : address_if (not (get_or old.path.items remaining 0 == function_to)
              && bytes_eq (take remaining old.path.items ++ function_to ∷ []) at_path) ≡ address_if (jumps_to function at_path frames t) =
              λ i. address_if (not (back i == next i) && bytes_eq (went i) at_path) in
              let call : address_if (calls_to function at_path frames t) ≡ 0 =
              ap (λ (b : Bool). address_if (b && bytes_eq (path_at function (after_transfer frames t) t.to) at_path)) jumps in
              omega (arith, a, jump, call);
          steps = on.steps;
          own = on.own;
          few = (let a = on.few in omega (arith, a));
          all_steps = on.all_steps;
        }

-- ---- which of both it was

pushed_length : (frames : List Frame) (t : Transfer) (b : Bool) → is_pushed (after_pop frames t) t ≡ b
    → length (after_transfer frames t) ≡ length (after_pop frames t) + cond b 1 0
unfolding after_transfer
pushed_length frames t false is =
    let e = ap (λ (b : Bool). length (cond b (after_pop frames t ++ frame_of t ∷ []) (after_pop frames t))) is in omega (arith, e)
pushed_length frames t true is =
    let e = ap (λ (b : Bool). length (cond b (after_pop frames t ++ frame_of t ∷ []) (after_pop frames t))) is in
    let one = length-append (after_pop frames t) (frame_of t ∷ []) in
    omega (arith, e, one)

pub is_call : (frames : List Frame) (t : Transfer) → remaining_depth t.action t.to t.sp frames < length (after_transfer frames t)
    → is_pushed (after_pop frames t) t ≡ true
is_call frames t more = elim (cases_Bool (is_pushed (after_pop frames t) t)) [
  | inl hit ↦ hit
  | inr miss ↦ let e = pushed_length frames t false miss in
      let l = long_popped (λ n. n) frames t in
      absurd (omega (arith, e, l, more))
]

pub is_jump : (frames : List Frame) (t : Transfer) → length (after_transfer frames t) ≤ remaining_depth t.action t.to t.sp frames
    → is_pushed (after_pop frames t) t ≡ false
is_jump frames t less = elim (cases_Bool (is_pushed (after_pop frames t) t)) [
  | inl hit ↦ let e = pushed_length frames t true hit in
      let l = long_popped (λ n. n) frames t in
      absurd (omega (arith, e, l, less))
  | inr miss ↦ miss
]

-- the functions that are left are those of some frame, or all
pub inside_path : (function : ℕ → ℕ) (frames : List Frame) (t : Transfer) (pc : ℕ)
    → remaining_depth t.action t.to t.sp frames < length (path_at function frames pc)
inside_path function frames t pc =
    let w = within function frames t in
    let a = length-append (map (λ (f : Frame). function f.call) frames) (function pc ∷ []) in
    let b = length-map frames (λ (f : Frame). function f.call) in
    omega (arith, w, a, b)
