-- Functions that are known.
use Rattle.std.proofs.Common.{◌≡◌, ◌∙◌, ◌<◌, ℕ, List, length, get_or, set, sym, ap, subst, arith, inl, inr, length-set}
use Rattle.std.proofs.lemmas.Bool.{cases_eq}
use Rattle.std.proofs.lemmas.List.{get_or-set_other, get_or-set_same}
use Rattle.rv_stacks.specs.declared.functions.CachedFunction.{CachedFunction}
use Rattle.rv_stacks.specs.StackSteps.{IsFunctionCache}

pub one_more_known : (function : ℕ → ℕ) (cache : List CachedFunction) (index : ℕ) (x : CachedFunction) → IsFunctionCache function cache
    → index < length cache → x.function ≡ function x.address → IsFunctionCache function (set cache index x)
one_more_known function cache index x h within is =
    let long = length-set cache index x in
    let many = h.many in record {
      many = omega (arith, long, many);
      each = λ k d inside. elim (cases_eq k index) [
        | inl same ↦ subst (λ (y : CachedFunction). y.function ≡ function y.address)
            (sym (ap (λ (n : ℕ). get_or (set cache index x) n d) same ∙ get_or-set_same cache index x d within)) is
        | inr other ↦ subst (λ (y : CachedFunction). y.function ≡ function y.address)
            (sym (get_or-set_other cache index k x d other)) (h.each k d (omega (arith, long, inside)))
      ];
    }

-- the one at a place answers for its address
pub answers : (function : ℕ → ℕ) (cache : List CachedFunction) (index address : ℕ) (x : CachedFunction) → IsFunctionCache function cache
    → index < length cache → x ≡ get_or cache index x → x.address ≡ address → x.function ≡ function address
answers function cache index address x h within is here =
    ap (λ (y : CachedFunction). y.function) is ∙ h.each index x within
    ∙ ap (λ (y : CachedFunction). function y.address) (sym is) ∙ ap function here
