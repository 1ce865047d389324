-- No row of what is not simulated is that of a code with an instruction in RV32IMC: a field that the row of the instruction fixes is
-- another one there.
use Rattle.std.proofs.Common.{◌≡◌, ◌∙◌, ℕ, ◌/◌, ◌%◌, ◌^◌, ◌-◌, ◌+◌, ◌==◌, Bool, true, false, not, ◌&&◌, List, [], ◌∷◌}
use Rattle.std.proofs.Common.{Some, None, cond, refl, sym, ap, inl, inr, bit_and}
use Rattle.std.specs.Prelude.{find}
use Rattle.std.specs.List.{list_all, list_any}
use Rattle.std.proofs.lemmas.Bool.{and_parts, cases_Bool, eq-eqb, eqb-true, false≢true, or_cases}
use Rattle.std.proofs.lemmas.Nat.{and_mod, and_shr}
use Rattle.rv_isa.specs.Bits.{field}
use Rattle.rv_isa.specs.Tables.{first_match}
use Rattle.rv_isa.specs.Extensions.{has_extension}
use Rattle.rv_isa.specs.Halfwords.{fits16, lacks_fields, meaning16, rows16 as c_rows}
use Rattle.rv_isa.specs.Words.{FieldValue, fits, has_fields, instruction, meaning32, rows}
use Rattle.rv_isa.specs.declared.instruction.Instr.{Instr}
use Rattle.rv_isa.specs.declared.isa.Isa.TheVariants as set
use Rattle.rv_disasm.specs.Unsimulated.{Row, is_row_of, rows16, rows32, unsimulated16, unsimulated32}

-- a field of bits under a mask
field_and : (w m high low : ℕ) → field (bit_and w m) high low ≡ bit_and (field w high low) (field m high low)
unfolding field
field_and w m high low =
    ap (λ x. x % 2 ^ (high - low + 1)) (and_shr w m low) ∙ and_mod (w / 2 ^ low) (m / 2 ^ low) (high - low + 1)

-- a word with this field is not the row's
abbrev differs : Row → FieldValue → Bool
differs r f = not (bit_and f.value (field r.mask f.high f.low) == field r.pattern f.high f.low)

abbrev differs_somewhere : List FieldValue → Row → Bool
differs_somewhere fs r = list_any (differs r) fs

agree : (w : ℕ) (r : Row) (f : FieldValue) → field w f.high f.low ≡ f.value → bit_and w r.mask ≡ r.pattern
    → bit_and f.value (field r.mask f.high f.low) ≡ field r.pattern f.high f.low
agree w r f h e =
    ap (λ x. bit_and x (field r.mask f.high f.low)) (sym h) ∙ sym (field_and w r.mask f.high f.low)
    ∙ ap (λ x. field x f.high f.low) e

not_both : (b : Bool) → b ≡ true → not b ≡ true → ⊥
not_both true e n = false≢true n
not_both false e n = false≢true e

no_row_of_field : (w : ℕ) (r : Row) (f : FieldValue) → field w f.high f.low ≡ f.value → differs r f ≡ true
    → is_row_of w r ≡ false
no_row_of_field w r f h d = elim (cases_Bool (is_row_of w r)) [
  | inl hit ↦ absurd (not_both (bit_and f.value (field r.mask f.high f.low) == field r.pattern f.high f.low)
      (eq-eqb _ _ (agree w r f h (eqb-true (bit_and w r.mask) r.pattern hit))) d)
  | inr missed ↦ missed
]

no_row_of_fields : (w : ℕ) (r : Row) (fs : List FieldValue) → has_fields w fs ≡ true → list_any (differs r) fs ≡ true
    → is_row_of w r ≡ false
no_row_of_fields w r [] h d = absurd (false≢true d)
no_row_of_fields w r (f ∷ fs) h d =
    let parts = and_parts (field w f.high f.low == f.value) (has_fields w fs) h in
    elim (or_cases (differs r f) (list_any (differs r) fs) d) [
      | inl here ↦ no_row_of_field w r f (eqb-true (field w f.high f.low) f.value parts.0) here
      | inr later ↦ no_row_of_fields w r fs parts.1 later
    ]

none_found : (w : ℕ) (fs : List FieldValue) (rs : List Row) → has_fields w fs ≡ true
    → list_all (differs_somewhere fs) rs ≡ true → find (is_row_of w) rs ≡ None
none_found w fs [] h d = refl
none_found w fs (r ∷ rs) h d =
    let parts = and_parts (differs_somewhere fs r) (list_all (differs_somewhere fs) rs) d in
    ap (λ b. cond b (Some r) (find (is_row_of w) rs)) (no_row_of_fields w r fs h parts.0)
    ∙ none_found w fs rs h parts.1

-- of a listing, whose rows have these fields, and fit a code only if it has them
module _ {A : Type 0} (w : ℕ) (fields : A → List FieldValue) (fit : A → Bool) (give : A → Instr)
    (sound : (q : A) → fit q ≡ true → has_fields w (fields q) ≡ true) where
  none_beside : (i : Instr) (qs : List A) (rs : List Row)
      → list_all (λ q. list_all (differs_somewhere (fields q)) rs) qs ≡ true
      → first_match fit give qs ≡ Some i → find (is_row_of w) rs ≡ None
  none_beside i [] rs d e = cc
  none_beside i (q ∷ qs) rs d e =
      let parts = and_parts (list_all (differs_somewhere (fields q)) rs)
      (list_all (λ p. list_all (differs_somewhere (fields p)) rs) qs) d in
      elim (cases_Bool (fit q)) [
        | inl here ↦ none_found w (fields q) rs (sound q here) parts.0
        | inr past ↦ none_beside i qs rs parts.1
            (sym (ap (λ b. cond b (Some (give q)) (first_match fit give qs)) past) ∙ e)
      ]

words_differ : list_all (λ q. list_all (differs_somewhere q.fixed) rows32) rows ≡ true
unfolding rows rows32 field
words_differ = refl

halfwords_differ : list_all (λ q. list_all (differs_somewhere q.fixed) rows16) c_rows ≡ true
unfolding c_rows rows16 field
halfwords_differ = refl

pub words_apart : (w : ℕ) (i : Instr) → meaning32 set.Imc w ≡ Some i → unsimulated32 w ≡ None
unfolding meaning32 unsimulated32
words_apart w i e =
    none_beside w (λ q. q.fixed) (fits set.Imc w) (λ q. instruction q.name q.format w)
    (λ q f. (and_parts (has_extension set.Imc q.extension) (has_fields w q.fixed) f).1) i rows rows32 words_differ e

pub halfwords_apart : (h : ℕ) (i : Instr) → meaning16 set.Imc h ≡ Some i → unsimulated16 h ≡ None
unfolding meaning16 unsimulated16
halfwords_apart h i e =
    none_beside h (λ q. q.fixed) (fits16 set.Imc h) (λ q. q.instr h)
    (λ q f. let parts = and_parts (has_extension set.Imc q.extension) (has_fields h q.fixed && (lacks_fields h q.excluded && q.has_valid_immediate h)) f in
    (and_parts (has_fields h q.fixed) (lacks_fields h q.excluded && q.has_valid_immediate h) parts.1).0) i c_rows rows16 halfwords_differ e
