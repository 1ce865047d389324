-- The rows up to a failure.
use Rattle.std.proofs.Common.{◌≡◌, ◌∙◌, ◌-◌, ℕ, zero, suc, Bool, true, false, List, [], ◌∷◌, ◌++◌, Option, Some, None, append-nil, ap, sym, refl, arith}
use Rattle.std.specs.Prelude.{if◌then◌else◌, option_map}
use Rattle.rv_expect.specs.Judgement.{JudgeView, fails}
use Rattle.rv_counting.specs.declared_row.Row.{Row}
use Rattle.rv_stream.specs.Limits.{failures_left_after, rows_until, rows_up_to}
use Rattle.rv_stream.specs.ReportedRows.{AreRowsUpToFailure}

module _ (fails : Row → Bool) where
  -- of rows in two pieces
  abbrev IsInPieces : ℕ → List Row → List Row → Type 0
  IsInPieces most rows more = rows_until fails most (rows ++ more)
      ≡ rows_until fails most rows ++ rows_until fails (failures_left_after fails most rows) more

  in-pieces-behind : (row : Row) (rows more : List Row) (left : ℕ) (failed : Bool)
      → IsInPieces left rows more → IsInPieces (suc left) rows more
      → row ∷ rows_until fails (if failed then left else suc left) (rows ++ more)
      ≡ (row ∷ rows_until fails (if failed then left else suc left) rows)
      ++ rows_until fails (failures_left_after fails (if failed then left else suc left) rows) more
  in-pieces-behind row rows more left true fewer same = ap (λ l. row ∷ l) fewer
  in-pieces-behind row rows more left false fewer same = ap (λ l. row ∷ l) same

  -- the rows of two pieces up to a failure
  pub until-append : (most : ℕ) (rows more : List Row) → IsInPieces most rows more
  until-append zero rows more = refl
  until-append (suc left) [] more = refl
  until-append (suc left) (row ∷ rows) more =
      in-pieces-behind row rows more left (fails row) (until-append left rows more) (until-append (suc left) rows more)

  -- the failures that are left
  abbrev LeavesInPieces : ℕ → List Row → List Row → Type 0
  LeavesInPieces most rows more = failures_left_after fails most (rows ++ more)
      ≡ failures_left_after fails (failures_left_after fails most rows) more

  leaves-behind : (rows more : List Row) (left : ℕ) (failed : Bool) → LeavesInPieces left rows more → LeavesInPieces (suc left) rows more
      → failures_left_after fails (if failed then left else suc left) (rows ++ more)
      ≡ failures_left_after fails (failures_left_after fails (if failed then left else suc left) rows) more
  leaves-behind rows more left true fewer same = fewer
  leaves-behind rows more left false fewer same = same

  left-append : (most : ℕ) (rows more : List Row) → LeavesInPieces most rows more
  left-append zero rows more = refl
  left-append (suc left) [] more = refl
  left-append (suc left) (row ∷ rows) more =
      leaves-behind rows more left (fails row) (left-append left rows more) (left-append (suc left) rows more)

  -- no rows
  none_until : (most : ℕ) → rows_until fails most [] ≡ []
  none_until zero = refl
  none_until (suc more) = refl

  none_left : (most : ℕ) → failures_left_after fails most [] ≡ most
  none_left zero = refl
  none_left (suc more) = refl

  -- one row
  one_until : (left : ℕ) (row : Row) → (left ≡ 0 → ⊥) → rows_until fails left (row ∷ []) ≡ row ∷ []
  one_until zero row some = absurd (some refl)
  one_until (suc left) row some = ap (λ (l : List Row). row ∷ l) (none_until (if fails row then left else suc left))

  less_by : (failed : Bool) (left : ℕ) → (if failed then left else suc left) ≡ (if failed then suc left - 1 else suc left)
  less_by true left = omega arith
  less_by false left = refl

  one_left : (left : ℕ) (row : Row) → (left ≡ 0 → ⊥) → failures_left_after fails left (row ∷ []) ≡ (if fails row then left - 1 else left)
  one_left zero row some = absurd (some refl)
  one_left (suc left) row some = none_left (if fails row then left else suc left) ∙ less_by (fails row) left

  -- ---- where a failure may end the run

  first_left : (failures : Option ℕ) → failures ≡ option_map (λ most. failures_left_after fails most []) failures
  first_left None = refl
  first_left (Some most) = ap (λ (n : ℕ). Some n) (sym (none_left most))

  first_within : (failures : Option ℕ) → rows_up_to failures fails [] ≡ []
  first_within None = refl
  first_within (Some most) = none_until most

  some_less : (failed : Bool) (n : ℕ)
      → (if failed then option_map (λ (m : ℕ). m - 1) (Some n) else Some n) ≡ Some (if failed then n - 1 else n)
  some_less true n = refl
  some_less false n = refl

  none_less : (failed : Bool) → (if failed then option_map (λ (m : ℕ). m - 1) None else None) ≡ None
  none_less true = refl
  none_less false = refl

  more_left : (failures left : Option ℕ) (rows : List Row) (row : Row)
      → left ≡ option_map (λ most. failures_left_after fails most rows) failures → (left ≡ Some 0 → ⊥)
      → (if fails row then option_map (λ (m : ℕ). m - 1) left else left)
      ≡ option_map (λ most. failures_left_after fails most (rows ++ row ∷ [])) failures
  more_left None left rows row is goes =
      ap (λ (o : Option ℕ). if fails row then option_map (λ (m : ℕ). m - 1) o else o) is ∙ none_less (fails row)
  more_left (Some most) left rows row is goes =
      let n = failures_left_after fails most rows in
      ap (λ (o : Option ℕ). if fails row then option_map (λ (m : ℕ). m - 1) o else o) is ∙ some_less (fails row) n
      ∙ ap (λ (m : ℕ). Some m) (sym (left-append most rows (row ∷ []) ∙ one_left n row (λ zero_is. goes (is ∙ ap (λ (m : ℕ). Some m) zero_is))))

  more_within : (failures left : Option ℕ) (rows : List Row) (row : Row)
      → left ≡ option_map (λ most. failures_left_after fails most rows) failures → (left ≡ Some 0 → ⊥)
      → rows_up_to failures fails rows ≡ rows → rows_up_to failures fails (rows ++ row ∷ []) ≡ rows ++ row ∷ []
  more_within None left rows row is goes within = refl
  more_within (Some most) left rows row is goes within =
      let n = failures_left_after fails most rows in
      until-append most rows (row ∷ [])
      ∙ (λ i. within i ++ one_until n row (λ zero_is. goes (is ∙ ap (λ (m : ℕ). Some m) zero_is)) i)

  -- rows up to a failure are the first of all
  pub first_of : (failures : Option ℕ) (rows more : List Row) → rows_up_to failures fails rows ≡ rows
      → (rest : List Row) × (rows_up_to failures fails (rows ++ more) ≡ rows ++ rest)
  first_of None rows more within = (more, refl)
  first_of (Some most) rows more within = (
    rows_until fails (failures_left_after fails most rows) more,
    until-append most rows more ∙ ap (λ (l : List Row). l ++ rows_until fails (failures_left_after fails most rows) more) within,
  )

  same_number : (n m : ℕ) → Some n ≡ Some m → n ≡ m
  same_number n m e = cc

  -- and all of them where no failure is left
  pub ended_there : (failures : Option ℕ) (rows more : List Row) → rows_up_to failures fails rows ≡ rows
      → option_map (λ most. failures_left_after fails most rows) failures ≡ Some 0 → rows_up_to failures fails (rows ++ more) ≡ rows
  ended_there None rows more within none = cc
  ended_there (Some most) rows more within none =
      until-append most rows more
      ∙ (λ i. within i ++ rows_until fails (same_number (failures_left_after fails most rows) 0 none i) more)
      ∙ append-nil rows

-- nothing is heard yet
pub no_rows_yet : (most : Option ℕ) (judging : JudgeView) → AreRowsUpToFailure most judging most false [] []
no_rows_yet most judging = record {
  collected_all = λ kept. refl;
  failures_left = first_left (fails judging) most;
  within = first_within (fails judging) most;
}

-- one row more
pub one_row_more : (most : Option ℕ) (judging : JudgeView) (left now : Option ℕ) (refused gone : Bool) (kept after rows : List Row) (row : Row)
    → AreRowsUpToFailure most judging left refused kept rows → (left ≡ Some 0 → ⊥) → refused ≡ false
    → now ≡ (if fails judging row then option_map (λ (m : ℕ). m - 1) left else left)
    → (gone ≡ false → after ≡ kept ++ row ∷ [])
    → AreRowsUpToFailure most judging now gone after (rows ++ row ∷ [])
one_row_more most judging left now refused gone kept after rows row first goes none less pushed = record {
  collected_all = λ there. pushed there ∙ ap (λ (l : List Row). l ++ row ∷ []) (first.collected_all none);
  failures_left = less ∙ more_left (fails judging) most left rows row first.failures_left goes;
  within = more_within (fails judging) most left rows row first.failures_left goes first.within;
}
