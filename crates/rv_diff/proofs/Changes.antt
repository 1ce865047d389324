-- What a row is to a difference of two reports, by what became of its job.
use Rattle.std.proofs.Common.{◌≡◌, ◌+◌, ◌≤◌, refl, ℕ, Bool, true, false, cond, [], Option, Some, None, arith}
use Rattle.std.specs.Prelude.{if◌then◌else◌, is_none, not}
use Rattle.rv_rows.specs.declared_row.Row.{Row}
use Rattle.rv_diff.specs.declared.change.Change.TheVariants.{Gone, Added, Changed, Same}
use Rattle.rv_diff.specs.declared.change.CompareMode.{CompareMode}
use Rattle.rv_diff.specs.Change.{change_of, rows_agree}
use Rattle.rv_diff.specs.Diff.{gone_line, is_changed}

-- ---- a row of the old report

agreeing_stays : (agree : Bool) → (if agree then Same else Changed) ≡ Gone → ⊥
agreeing_stays true is = cc
agreeing_stays false is = cc

pub gone_is_alone : (compare : CompareMode) (row : Row) (other : Option Row) → change_of compare (Some row) other ≡ Gone
    → other ≡ None
gone_is_alone compare row None is = refl
gone_is_alone compare row (Some new) is = absurd (agreeing_stays (rows_agree compare row new) is)

pub stays_where_not_gone : (compare : CompareMode) (row : Row) (other : Option Row)
    → (change_of compare (Some row) other ≡ Gone → ⊥) → (gone_line other row ≡ []) × (is_none other ≡ false)
stays_where_not_gone compare row None not_gone = absurd (not_gone refl)
stays_where_not_gone compare row (Some new) not_gone = (refl, refl)

-- ---- a row of the new report

-- the counts of those that are added and of those that changed, with one row more
abbrev pub IsCounted : CompareMode → Option Row → Row → ℕ → ℕ → ℕ → ℕ → Type 0
IsCounted compare other row added changed more_added more_changed =
    (more_added ≡ added + cond (is_none other) 1 0) × (more_changed ≡ changed + cond (is_changed compare other row) 1 0)

agreeing_is_not_added : (agree : Bool) → (if agree then Same else Changed) ≡ Added → ⊥
agreeing_is_not_added true is = cc
agreeing_is_not_added false is = cc

changed_differ : (agree : Bool) → (if agree then Same else Changed) ≡ Changed → not agree ≡ true
changed_differ true is = cc
changed_differ false is = refl

others_agree : (agree : Bool) → ((if agree then Same else Changed) ≡ Changed → ⊥) → not agree ≡ false
others_agree true not_changed = refl
others_agree false not_changed = absurd (not_changed refl)

pub added_is : (compare : CompareMode) (other : Option Row) (row : Row) → change_of compare other (Some row) ≡ Added
    → (is_none other ≡ true) × (is_changed compare other row ≡ false)
added_is compare None row is = (refl, refl)
added_is compare (Some old) row is = absurd (agreeing_is_not_added (rows_agree compare old row) is)

pub changed_is : (compare : CompareMode) (other : Option Row) (row : Row) → change_of compare other (Some row) ≡ Changed
    → (is_none other ≡ false) × (is_changed compare other row ≡ true)
changed_is compare None row is = cc
changed_is compare (Some old) row is = (refl, changed_differ (rows_agree compare old row) is)

pub same_is : (compare : CompareMode) (other : Option Row) (row : Row) → (change_of compare other (Some row) ≡ Added → ⊥)
    → (change_of compare other (Some row) ≡ Changed → ⊥)
    → (is_none other ≡ false) × (is_changed compare other row ≡ false)
same_is compare None row not_added not_changed = absurd (not_added refl)
same_is compare (Some old) row not_added not_changed = (refl, others_agree (rows_agree compare old row) not_changed)

both_within : (alone changed : ℕ) (a b c d i : ℕ) → alone + changed ≤ 1 → c ≡ a + alone → d ≡ b + changed → a + b ≤ i
    → c + d ≤ i + 1
both_within alone changed a b c d i one is_a is_b within = omega arith

at_most_one : (passes : Bool) → 0 + cond passes 1 0 ≤ 1
at_most_one true = omega arith
at_most_one false = omega arith

pub counted_within : (compare : CompareMode) (other : Option Row) (row : Row) (a b c d i : ℕ)
    → IsCounted compare other row a b c d → a + b ≤ i → c + d ≤ i + 1
counted_within compare None row a b c d i counted within =
    both_within 1 0 a b c d i (omega arith) counted.0 counted.1 within
counted_within compare (Some old) row a b c d i counted within =
    both_within 0 (cond (not (rows_agree compare old row)) 1 0) a b c d i (at_most_one (not (rows_agree compare old row)))
    counted.0 counted.1 within
