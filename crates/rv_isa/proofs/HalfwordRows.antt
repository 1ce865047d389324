-- The 16-bit rows: no halfword has two.
use Rattle.std.proofs.Common.{◌≡◌, ◌≤◌, ℕ, Bool, true, ◌&&◌, ◌||◌, not, eqb, List, [], ◌∷◌, Option, Some, None, ◌↔◌}
use Rattle.std.proofs.Common.{◌≢◌, IsNone, IfSome, refl, sym, ◌∙◌, ap, inl, inr}
use Rattle.std.specs.Prelude.{count_by}
use Rattle.std.specs.List.{list_any}
use Rattle.std.proofs.lemmas.Bool.{and_parts, or_cases, eqb-true, eqb-false, not-true, false≢true}
use Rattle.rv_isa.specs.Bits.{field}
use Rattle.rv_isa.specs.declared.instruction.Instr.{Instr}
use Rattle.rv_isa.specs.declared.isa.Isa.{Isa}
use Rattle.rv_isa.specs.declared.isa.Isa.TheVariants as set
use Rattle.rv_isa.specs.Extensions.{has_extension}
use Rattle.rv_isa.specs.Words.{FieldValue, has_fields, Means32}
use Rattle.rv_isa.specs.Halfwords.{Row16, rows16, fits16, lacks_fields, Means16, meaning16, Expands}
use Rattle.rv_isa.proofs.Tables.{pairs_pass, at_most_one, first_match-only, first_match-found}
use Rattle.rv_isa.proofs.WordRows.{differ, differ_sound, fixed_in, meaning32_means}

-- the two fields are one, with one value
abbrev same : FieldValue → FieldValue → Bool
same f g = eqb f.high g.high && (eqb f.low g.low && eqb f.value g.value)

-- one fixes what the other excludes, or the two fix a field at different values
abbrev apart : Row16 → Row16 → Bool
apart r s =
    list_any (λ f. list_any (λ g. differ f g) s.fixed) r.fixed
    || (list_any (λ f. list_any (λ g. same f g) s.excluded) r.fixed
    || list_any (λ f. list_any (λ g. same f g) r.excluded) s.fixed)

rows_apart : pairs_pass apart rows16 ≡ true
unfolding rows16
rows_apart = refl

-- a field that is barred is not there
barred_in : (h : ℕ) (fs : List FieldValue) (f : FieldValue) → lacks_fields h fs ≡ true → list_any (λ g. same f g) fs ≡ true
    → field h f.high f.low ≡ f.value → ⊥
barred_in h [] f l t p = false≢true t
barred_in h (g ∷ gs) f l t p =
    let parts = and_parts (not (eqb (field h g.high g.low) g.value)) (lacks_fields h gs) l in
    elim (or_cases (same f g) (list_any (λ x. same f x) gs) t) [
      | inl here ↦ (
          let a = and_parts (eqb f.high g.high) (eqb f.low g.low && eqb f.value g.value) here in
          let b = and_parts (eqb f.low g.low) (eqb f.value g.value) a.1 in
          let high : f.high ≡ g.high = eqb-true f.high g.high a.0 in
          let low : f.low ≡ g.low = eqb-true f.low g.low b.0 in
          let value : f.value ≡ g.value = eqb-true f.value g.value b.1 in
          eqb-false (field h g.high g.low) g.value (not-true (eqb (field h g.high g.low) g.value) parts.0) (cc)
          )
      | inr later ↦ barred_in h gs f parts.1 later p
    ]

apart_sound : (isa : Isa) (h : ℕ) (r s : Row16) → apart r s ≡ true → fits16 isa h r ≡ true → fits16 isa h s ≡ true → ⊥
apart_sound isa h r s a p q =
    let rf = and_parts (has_extension isa r.extension) (has_fields h r.fixed && (lacks_fields h r.excluded && r.has_valid_immediate h)) p in
    let sf = and_parts (has_extension isa s.extension) (has_fields h s.fixed && (lacks_fields h s.excluded && s.has_valid_immediate h)) q in
    let rs = and_parts (has_fields h r.fixed) (lacks_fields h r.excluded && r.has_valid_immediate h) rf.1 in
    let ss = and_parts (has_fields h s.fixed) (lacks_fields h s.excluded && s.has_valid_immediate h) sf.1 in
    let rl = and_parts (lacks_fields h r.excluded) (r.has_valid_immediate h) rs.1 in
    let sl = and_parts (lacks_fields h s.excluded) (s.has_valid_immediate h) ss.1 in
    let first = list_any (λ f. list_any (λ g. differ f g) s.fixed) r.fixed in
    let second = list_any (λ f. list_any (λ g. same f g) s.excluded) r.fixed in
    let third = list_any (λ f. list_any (λ g. same f g) r.excluded) s.fixed in
    elim (or_cases first (second || third) a) [
      | inl t ↦
          fixed_in h r.fixed (λ f. list_any (λ g. differ f g) s.fixed) rs.0 t ⊥
          (λ f any x. fixed_in h s.fixed (λ g. differ f g) ss.0 any ⊥ (λ g c y. differ_sound h f g c x y))
      | inr more ↦ elim (or_cases second third more) [
        | inl t ↦
            fixed_in h r.fixed (λ f. list_any (λ g. same f g) s.excluded) rs.0 t ⊥
            (λ f any x. barred_in h s.excluded f sl.0 any x)
        | inr t ↦
            fixed_in h s.fixed (λ f. list_any (λ g. same f g) r.excluded) ss.0 t ⊥
            (λ f any x. barred_in h r.excluded f rl.0 any x)
      ]
    ]

pub one_row : (isa : Isa) (h : ℕ) → count_by (fits16 isa h) rows16 ≤ 1
one_row isa h = at_most_one (fits16 isa h) apart (apart_sound isa h) rows16 rows_apart

-- The first row that fits is the only one.
pub meaning16_means : (isa : Isa) (h : ℕ) (i : Instr) → (meaning16 isa h ≡ Some i) ↔ Means16 isa h i
unfolding meaning16 Means16
meaning16_means isa h i = (
  (λ e. first_match-found (fits16 isa h) (λ r. r.instr h) rows16 i e),
  (λ m. first_match-only (fits16 isa h) (λ r. r.instr h) rows16 m.0 m.1 (one_row isa h) m.2 m.3 m.4.0
      ∙ ap (λ j. Some j) (sym m.4.1)),
)

-- an answer that is not `None`
found : {A : Type 0} (o : Option A) → o ≢ None → (x : A) × (o ≡ Some x)
found None n = absurd (n refl)
found (Some x) n = (x, refl)

pub expands_none : (h : ℕ) (r : Option ℕ) → Expands h r → IsNone r ↔ ((i : Instr) → Means16 set.Imc h i → ⊥)
expands_none h None e = (
  (λ n i m. let s : meaning16 set.Imc h ≡ Some i = (meaning16_means set.Imc h i).1 m in (cc)),
  (λ n. refl),
)
expands_none h (Some w) e = (
  (λ n. cc),
  (λ n. let x = found (meaning16 set.Imc h) e.1 in absurd (n x.0 ((meaning16_means set.Imc h x.0).0 x.1))),
)

pub expands_word : (h : ℕ) (r : Option ℕ) → Expands h r
    → IfSome r (λ w. (i : Instr) → Means32 set.Imc w i ↔ Means16 set.Imc h i)
expands_word h None e = tt
expands_word h (Some w) e = λ i. (
  (λ m. (meaning16_means set.Imc h i).0 (sym e.0 ∙ (meaning32_means set.Imc w i).1 m)),
  (λ m. (meaning32_means set.Imc w i).0 (e.0 ∙ (meaning16_means set.Imc h i).1 m)),
)
