-- Whether an instruction began within a range.
use Rattle.std.proofs.Common.{◌≡◌, ◌==◌, ◌+◌, ◌<◌, ◌≤◌, ◌&&◌, ◌||◌, ◌↔◌, ℕ, zero, suc, Bool, true, false, cond, not, List, [], ◌∷◌, Contains, filter, length, refl, sym, ap, subst, arith, leb, ltb}
use Rattle.std.specs.List.{AllByRecursion, list_any}
use Rattle.std.proofs.lemmas.Bool.Decides.{nat_tests}
use Rattle.rv_count_tables.specs.declared.table.AddressCounts.{AddressCounts}
use Rattle.rv_count_tables.specs.Table.{AreValidCounts, IsValidCount, executed_at}
use Rattle.rv_elf.specs.Functions.{FunctionView}
use Rattle.rv_cover_view.specs.Cover.{WasNotExecuted, has_run, never_run}
use Rattle.rv_cover_view.specs.Functions.{address_of, bytes_of}

abbrev pub is_within : ℕ → ℕ → AddressCounts → Bool
is_within from end c = leb from c.address && ltb c.address end

others : (a b : Bool) → a || b ≡ false → b ≡ false
others true b e = cc
others false b e = e

not_begun_first : (from end at executed address rest : ℕ) (any : Bool) → (leb from at && ltb at end) || any ≡ false
    → from ≤ address → address < end → rest ≡ 0 → cond (at == address) executed 0 + rest ≡ 0
not_begun_first from end at executed address rest any e l h z = grind (arith, nat_tests)

pub not_begun : (from end : ℕ) (cs : List AddressCounts) → list_any (is_within from end) cs ≡ false
    → (address : ℕ) → from ≤ address → address < end → executed_at address cs ≡ 0
not_begun from end [] e address l h = refl
not_begun from end (c ∷ cs) e address l h =
    not_begun_first from end c.address c.executed address (executed_at address cs) (list_any (is_within from end) cs) e l h
    (not_begun from end cs (others (is_within from end c) (list_any (is_within from end) cs) e) address l h)

none_first : (from end at executed rest : ℕ) (any : Bool) → 0 < executed → any ≡ false
    → (from ≤ at → at < end → cond (at == at) executed 0 + rest ≡ 0) → (leb from at && ltb at end) || any ≡ false
none_first from end at executed rest any l e h = grind (arith, nat_tests)

pub none_within : (from end : ℕ) (cs : List AddressCounts) → AllByRecursion IsValidCount cs
    → ((address : ℕ) → from ≤ address → address < end → executed_at address cs ≡ 0) → list_any (is_within from end) cs ≡ false
none_within from end [] each h = refl
none_within from end (c ∷ cs) each h =
    none_first from end c.address c.executed (executed_at c.address cs) (list_any (is_within from end) cs) each.0.executed
    (none_within from end cs each.1 (λ address l m. let z = h address l m in omega (arith, z)))
    (h c.address)

-- ---- those that pass a test

module _ {X : Type 0} (p : X → Bool) where
  later : (y : X) (ys : List X) (x : X) → Contains ys x → Contains (y ∷ ys) x
  later y ys x (k, l, e) = (suc k, omega arith, e)

  first_or_later : (y : X) (ys zs : List X) (x : X) → p y ≡ true → (Contains zs x → Contains ys x × (p x ≡ true)) → Contains (y ∷ zs) x
      → Contains (y ∷ ys) x × (p x ≡ true)
  first_or_later y ys zs x t h (zero, l, e) = ((zero, omega arith, e), subst (λ z. p z ≡ true) e t)
  first_or_later y ys zs x t h (suc k, l, e) = let r = h (k, omega arith, e) in (later y ys x r.0, r.1)

  passes : (xs : List X) (x : X) → Contains (filter p xs) x → Contains xs x × (p x ≡ true)
  passes [] x (k, l, e) = absurd (omega arith)
  passes (y ∷ ys) x h = elim (p y)
      as (λ b. p y ≡ b → Contains (cond b (y ∷ filter p ys) (filter p ys)) x → Contains (y ∷ ys) x × (p x ≡ true)) [
        | true ↦ λ t k. first_or_later y ys (filter p ys) x t (passes ys x) k
        | false ↦ λ t k. let r = passes ys x k in (later y ys x r.0, r.1)
      ] refl h

  kept_first : (y : X) (ys : List X) (x : X) → y ≡ x → (b : Bool) → b ≡ true → Contains (cond b (y ∷ ys) ys) x
  kept_first y ys x e true t = (zero, omega arith, e)
  kept_first y ys x e false t = cc

  kept_later : (y : X) (ys : List X) (x : X) → Contains ys x → (b : Bool) → Contains (cond b (y ∷ ys) ys) x
  kept_later y ys x h true = later y ys x h
  kept_later y ys x h false = h

  kept : (xs : List X) (x : X) → Contains xs x → p x ≡ true → Contains (filter p xs) x
  kept [] x (k, l, e) t = absurd (omega arith)
  kept (y ∷ ys) x (zero, l, e) t = kept_first y (filter p ys) x e (p y) (subst (λ z. p z ≡ true) (sym e) t)
  kept (y ∷ ys) x (suc k, l, e) t = kept_later y (filter p ys) x (kept ys x (k, omega arith, e) t) (p y)

negated : (b : Bool) → not b ≡ true → b ≡ false
negated true e = cc
negated false e = refl

pub never_run_has_not_begun : (counts : List AddressCounts) (fs : List FunctionView) (f : FunctionView) → AreValidCounts counts
    → Contains (never_run counts fs) f ↔ (Contains fs f × WasNotExecuted counts f)
never_run_has_not_begun counts fs f good = (
  λ h.
      let r = passes (λ (g : FunctionView). not (has_run counts g)) fs f h in
      (r.0, not_begun (address_of f) (address_of f + length (bytes_of f)) counts (negated (has_run counts f) r.1)),
  λ h. kept (λ (g : FunctionView). not (has_run counts g)) fs f h.0
      (ap not (none_within (address_of f) (address_of f + length (bytes_of f)) counts good.each h.1)),
)
