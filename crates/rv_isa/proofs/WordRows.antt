-- The 32-bit rows: no word has two.
use Rattle.std.proofs.Common.{◌≡◌, ◌≤◌, ℕ, Bool, true, ◌&&◌, ◌||◌, not, eqb, leb, List, [], ◌∷◌, Some, ◌↔◌, refl, sym}
use Rattle.std.proofs.Common.{◌∙◌, ap, subst, inl, inr}
use Rattle.std.specs.Prelude.{count_by}
use Rattle.std.specs.List.{list_any}
use Rattle.std.proofs.lemmas.Bool.{and_parts, or_cases, eqb-true, eqb-false, leb-true, not-true, false≢true}
use Rattle.rv_isa.specs.Bits.{field}
use Rattle.rv_isa.proofs.Fields.{field-low}
use Rattle.rv_isa.specs.declared.instruction.Instr.{Instr}
use Rattle.rv_isa.specs.declared.isa.Isa.{Isa}
use Rattle.rv_isa.specs.Extensions.{has_extension}
use Rattle.rv_isa.specs.Words.{Row, FieldValue, rows, has_fields, fits, instruction, Means32, meaning32}
use Rattle.rv_isa.proofs.Tables.{pairs_pass, at_most_one, first_match-only, first_match-found}

-- the first field's value refutes the second's
unfoldable refutes : FieldValue → FieldValue → Bool
refutes f g = eqb f.low 0 && (leb g.low g.high && (leb g.high f.high && not (eqb (field f.value g.high g.low) g.value)))

-- the two fields are one, with different values
abbrev pub differ : FieldValue → FieldValue → Bool
differ f g = eqb f.high g.high && (eqb f.low g.low && not (eqb f.value g.value))

-- no word has both fields
abbrev clash : FieldValue → FieldValue → Bool
clash f g = differ f g || (refutes f g || refutes g f)

-- a field of one row clashes with a field of the other
abbrev apart : Row → Row → Bool
apart r s = list_any (λ f. list_any (λ g. clash f g) s.fixed) r.fixed

rows_apart : pairs_pass apart rows ≡ true
unfolding rows field refutes
rows_apart = refl

refutes_sound : (w : ℕ) (f g : FieldValue) → refutes f g ≡ true → field w f.high f.low ≡ f.value
    → field w g.high g.low ≡ g.value → ⊥
unfolding refutes
refutes_sound w f g r p q =
    let a = and_parts (eqb f.low 0)
    (leb g.low g.high && (leb g.high f.high && not (eqb (field f.value g.high g.low) g.value))) r in
    let b = and_parts (leb g.low g.high) (leb g.high f.high && not (eqb (field f.value g.high g.low) g.value)) a.1 in
    let d = and_parts (leb g.high f.high) (not (eqb (field f.value g.high g.low) g.value)) b.1 in
    let from_low : field w f.high 0 ≡ f.value = subst (λ l. field w f.high l ≡ f.value) (eqb-true f.low 0 a.0) p in
    let inner : field f.value g.high g.low ≡ field w g.high g.low =
    ap (λ v. field v g.high g.low) (sym from_low)
    ∙ field-low w f.high g.high g.low (leb-true g.low g.high b.0) (leb-true g.high f.high d.0) in
    eqb-false (field f.value g.high g.low) g.value (not-true (eqb (field f.value g.high g.low) g.value) d.1) (inner ∙ q)

pub differ_sound : (w : ℕ) (f g : FieldValue) → differ f g ≡ true → field w f.high f.low ≡ f.value
    → field w g.high g.low ≡ g.value → ⊥
differ_sound w f g r p q =
    let a = and_parts (eqb f.high g.high) (eqb f.low g.low && not (eqb f.value g.value)) r in
    let b = and_parts (eqb f.low g.low) (not (eqb f.value g.value)) a.1 in
    let h : f.high ≡ g.high = eqb-true f.high g.high a.0 in
    let l : f.low ≡ g.low = eqb-true f.low g.low b.0 in
    eqb-false f.value g.value (not-true (eqb f.value g.value) b.1) (cc)

clash_sound : (w : ℕ) (f g : FieldValue) → clash f g ≡ true → field w f.high f.low ≡ f.value → field w g.high g.low ≡ g.value
    → ⊥
clash_sound w f g c p q =
    elim (or_cases (differ f g) (refutes f g || refutes g f) c) [
      | inl d ↦ differ_sound w f g d p q
      | inr e ↦ elim (or_cases (refutes f g) (refutes g f) e) [
        | inl r ↦ refutes_sound w f g r p q
        | inr r ↦ refutes_sound w g f r q p
      ]
    ]

-- of the fields that a word has, one passes the test
pub fixed_in : (w : ℕ) (fs : List FieldValue) (test : FieldValue → Bool) → has_fields w fs ≡ true → list_any test fs ≡ true
    → (P : Type 0) → ((f : FieldValue) → test f ≡ true → field w f.high f.low ≡ f.value → P) → P
fixed_in w [] test h t P k = absurd (false≢true t)
fixed_in w (f ∷ fs) test h t P k =
    let parts = and_parts (eqb (field w f.high f.low) f.value) (has_fields w fs) h in
    elim (or_cases (test f) (list_any test fs) t) [
      | inl here ↦ k f here (eqb-true (field w f.high f.low) f.value parts.0)
      | inr later ↦ fixed_in w fs test parts.1 later P k
    ]

apart_sound : (w : ℕ) (r s : Row) → apart r s ≡ true → has_fields w r.fixed ≡ true → has_fields w s.fixed ≡ true → ⊥
apart_sound w r s a h k =
    fixed_in w r.fixed (λ f. list_any (λ g. clash f g) s.fixed) h a ⊥
    (λ f any p. fixed_in w s.fixed (λ g. clash f g) k any ⊥ (λ g c q. clash_sound w f g c p q))

fitting_apart : (isa : Isa) (w : ℕ) (r s : Row) → apart r s ≡ true → fits isa w r ≡ true → fits isa w s ≡ true → ⊥
fitting_apart isa w r s a p q =
    apart_sound w r s a
    (and_parts (has_extension isa r.extension) (has_fields w r.fixed) p).1
    (and_parts (has_extension isa s.extension) (has_fields w s.fixed) q).1

pub one_row : (isa : Isa) (w : ℕ) → count_by (fits isa w) rows ≤ 1
one_row isa w = at_most_one (fits isa w) apart (fitting_apart isa w) rows rows_apart

-- The first row that fits is the only one.
pub meaning32_means : (isa : Isa) (w : ℕ) (i : Instr) → (meaning32 isa w ≡ Some i) ↔ Means32 isa w i
unfolding meaning32 Means32
meaning32_means isa w i = (
  (λ h. first_match-found (fits isa w) (λ r. instruction r.name r.format w) rows i h),
  (λ m. first_match-only (fits isa w) (λ r. instruction r.name r.format w) rows m.0 m.1 (one_row isa w) m.2 m.3 m.4.0
      ∙ ap (λ j. Some j) (sym m.4.1)),
)
