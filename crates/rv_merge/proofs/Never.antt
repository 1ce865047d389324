-- Where texts are the parts of a list, none of them is refused.
use Rattle.std.proofs.Common.{◌≡◌, ◌∙◌, ◌-◌, ◌<◌, ◌≤◌, ℕ, true, List, [], ◌∷◌, ◌++◌, length, map, take}
use Rattle.std.proofs.Common.{Some, option_map, get_or, false, refl, sym, ap, arith, subst}
use Rattle.std.specs.Prelude.{is_some, slice_get, Any, Result, Ok, Err, IfOk, IfErr}
use Rattle.std.specs.Result.{IsErrAnd}
use Rattle.std.proofs.lemmas.Bool.{false≢true}
use Rattle.std.proofs.lemmas.List.{take-map}
use Rattle.std.proofs.lemmas.Option.{slice_get-map}
use Rattle.rv_rows.specs.Names.{index_in}
use Rattle.rv_rows.specs.declared_row.Row.{Row}
use Rattle.rv_rows.specs.declared_saved.Extent.{Extent}
use Rattle.rv_rows.specs.declared_saved.Extent.TheVariants as extent
use Rattle.rv_rows.specs.declared_saved.Shard.{Shard}
use Rattle.rv_rows.specs.declared_saved.SavedReport.{SavedReport}
use Rattle.rv_rows.specs.Saved.{are_distinct, are_evenly_spaced, row_names, saved_text}
use Rattle.rv_merge.specs.declared.error.Flaw.{Flaw}
use Rattle.rv_merge.specs.declared.error.Flaw.TheVariants as flaw
use Rattle.rv_merge.specs.declared.error.MergeError.{MergeError}
use Rattle.rv_merge.specs.declared.error.MergeError.TheVariants as error
use Rattle.rv_merge.specs.Parts.{AreParts, ArePartsOfRun, IsPartOfRows, Run, shard_in, nth_text}
use Rattle.rv_merge.specs.Refusals.{AreDifferentReports, HaveDifferentValues, HasFlaw, IsMissingShard, IsRepeatedName, HasMergeError, IsRowsOrOutOfMemory}
use Rattle.rv_merge.proofs.Named.{new_at}
use Rattle.rv_merge.proofs.OneList.{each_part, numbers_of_shard, one_extent, one_list, one_shard_of, same_run}
use Rattle.rv_merge.proofs.OneList.{some_part}
use Rattle.rv_merge.proofs.Stepping.{stepped_same}

-- ---- two texts of one shard

same_rows : {X : Type 0} (xs ys : List X) → map Some xs ≡ map Some ys → xs ≡ ys
same_rows [] [] e = refl
same_rows [] (y ∷ ys) e = cc
same_rows (x ∷ xs) [] e = cc
same_rows (x ∷ xs) (y ∷ ys) e =
    let first : x ≡ y = cc in
    let rest : map Some xs ≡ map Some ys = cc in
    ap (λ z. z ∷ xs) first ∙ ap (λ zs. y ∷ zs) (same_rows xs ys rest)

same_saved : (r t : SavedReport) → r.extent ≡ t.extent → r.numbers ≡ t.numbers → r.rows ≡ t.rows → r ≡ t
same_saved r t e f g =
    ap (λ (x : Extent). record { extent = x; numbers = r.numbers; rows = r.rows }) e
    ∙ ap (λ (x : List ℕ). record { extent = t.extent; numbers = x; rows = r.rows }) f
    ∙ ap (λ (x : List Row). record { extent = t.extent; numbers = t.numbers; rows = x }) g

same_part : (run : Run) (rows : List Row) (n m : ℕ) (bytes others : List ℕ) → IsPartOfRows rows run n bytes
    → IsPartOfRows rows run m others → n ≡ m → bytes ≡ others
same_part run rows n m bytes others x y is =
    let r = x.of.report in
    let t = y.of.report in
    let a = numbers_of_shard (shard_in run n) r x.of.saved x.of.extent in
    let b = numbers_of_shard (shard_in run m) t y.of.saved y.of.extent in
    let again = subst (λ (k : ℕ). are_evenly_spaced k run.shards run.jobs t.numbers ≡ true) (sym is) b.stepped in
    let numbers = stepped_same n run.shards run.jobs r.numbers t.numbers a.stepped again in
    let have : r.rows ≡ t.rows =
    same_rows r.rows t.rows (sym x.has ∙ ap (map (λ (k : ℕ). slice_get rows (k - 1))) numbers ∙ y.has) in
    let extents = x.of.extent ∙ ap (λ (k : ℕ). extent.Shard (shard_in run k)) is ∙ sym y.of.extent in
    let one = same_saved r t extents numbers have
    in
    sym x.of.text ∙ ap saved_text one ∙ y.of.text

two_never : (run : Run) (rows : List Row) (n m : ℕ) (bytes others : List ℕ) → IsPartOfRows rows run n bytes
    → IsPartOfRows rows run m others → AreDifferentReports bytes others → ⊥
two_never run rows n m bytes others x y two =
    let a = one_shard_of two.shard (shard_in run n) bytes two.first_is_report x.of in
    let b = one_shard_of two.shard (shard_in run m) others two.second_is_report y.of in
    two.differ (same_part run rows n m bytes others x y (ap (λ (s : Shard). s.number) (sym a ∙ b)))

-- ---- other runs

differ_never : {X : Type 0} (what : Shard → X) (run : Run) (rows : List Row) (n m : ℕ) (bytes others : List ℕ)
    → ((k j : ℕ) → what (shard_in run k) ≡ what (shard_in run j)) → IsPartOfRows rows run n bytes → IsPartOfRows rows run m others
    → HaveDifferentValues what bytes others → ⊥
differ_never what run rows n m bytes others alike x y d =
    let a = one_shard_of d.shard (shard_in run n) bytes d.first_is_report x.of in
    let b = one_shard_of d.other (shard_in run m) others d.second_is_report y.of in
    d.differ (ap what a ∙ alike n m ∙ sym (ap what b))

-- ---- names

named_never : (rows : List Row) (place : ℕ) → are_distinct [] (row_names rows) ≡ true → IsRepeatedName rows place → ⊥
named_never rows place new h =
    let name = λ (row : Row). row.name in
    let there : slice_get (row_names rows) place ≡ Some h.row.name =
    slice_get-map name rows place ∙ ap (option_map name) h.at in
    let fresh : is_some (index_in ([] ++ take place (row_names rows)) h.row.name) ≡ false =
    new_at [] (row_names rows) place h.row.name new there in
    let same : take place (row_names rows) ≡ row_names (take place rows) = take-map name place rows in
    false≢true
    (sym fresh ∙ ap (λ (xs : List (List ℕ)). is_some (index_in xs h.row.name)) same ∙ h.twice)

-- ---- each flaw

flaw_never : (run : Run) (rows : List Row) (texts : List (List ℕ)) (at : ℕ) (why : Flaw) → ArePartsOfRun run rows texts
    → are_distinct [] (row_names rows) ≡ true → at < length texts → HasFlaw texts at why → ⊥
flaw_never run rows texts at (flaw.Line line) parts new within h =
    let p = each_part run rows texts at parts within in
    h.none p.1.of.report p.1.of.saved p.1.of.text
flaw_never run rows texts at flaw.Truncated parts new within h =
    let p = each_part run rows texts at parts within in
    h.none p.1.of.report p.1.of.saved p.1.of.text
flaw_never run rows texts at flaw.Whole parts new within h =
    let p = each_part run rows texts at parts within in
    let e = one_extent extent.Whole (extent.Shard (shard_in run p.0)) (nth_text texts at) h p.1.of in
    cc
flaw_never run rows texts at flaw.Selection parts new within h =
    let p = each_part run rows texts at parts within in
    let e = one_extent (extent.Selection h.0) (extent.Shard (shard_in run p.0)) (nth_text texts at) h.1 p.1.of in
    cc
flaw_never run rows texts at flaw.DifferentShardCount parts new within h =
    let p = each_part run rows texts 0 parts (omega arith) in
    let q = each_part run rows texts at parts within in
    differ_never (λ (s : Shard). s.shards) run rows p.0 q.0 (nth_text texts 0) (nth_text texts at) (λ k j. refl) p.1 q.1 h
flaw_never run rows texts at flaw.DifferentJobCount parts new within h =
    let p = each_part run rows texts 0 parts (omega arith) in
    let q = each_part run rows texts at parts within in
    differ_never (λ (s : Shard). s.jobs) run rows p.0 q.0 (nth_text texts 0) (nth_text texts at) (λ k j. refl) p.1 q.1 h
flaw_never run rows texts at flaw.DifferentStamp parts new within h =
    let p = each_part run rows texts 0 parts (omega arith) in
    let q = each_part run rows texts at parts within in
    differ_never (λ (s : Shard). s.stamp) run rows p.0 q.0 (nth_text texts 0) (nth_text texts at) (λ k j. refl) p.1 q.1 h
flaw_never run rows texts at (flaw.DifferentText earlier) parts new within h =
    let low = h.0 in
    let p = each_part run rows texts earlier parts (omega arith) in
    let q = each_part run rows texts at parts within in
    two_never run rows p.0 q.0 (nth_text texts earlier) (nth_text texts at) p.1 q.1 h.1
flaw_never run rows texts at (flaw.RepeatedName n) parts new within h =
    let e = one_list run h.run rows h.rows texts parts h.parts in
    named_never h.rows (n - 1) (subst (λ (x : List Row). are_distinct [] (row_names x) ≡ true) e new) h.twice

-- ---- a missing shard

missing_any : (run : Run) (rows : List Row) (texts : List (List ℕ)) (n : ℕ) (m : IsMissingShard n texts)
    → Any (IsPartOfRows rows run n) texts → ⊥
missing_any run rows texts n m (k, x, within, is, p) =
    let (other, of, differ) = m.each k x within in
    let here = subst (λ (b : List ℕ). IsPartOfRows rows run n b) (sym is) p in
    let one = one_shard_of (shard_in m.run other) (shard_in run n) (get_or texts k x) of here.of in
    differ (ap (λ (s : Shard). s.number) one)

missing_never : (run : Run) (rows : List Row) (texts : List (List ℕ)) (n : ℕ) → ArePartsOfRun run rows texts
    → IsMissingShard n texts → ⊥
missing_never run rows texts n parts m =
    let p = each_part run rows texts 0 parts m.some in
    let (other, of, differ) = m.each 0 [] m.some in
    let one = one_shard_of (shard_in m.run other) (shard_in run p.0) (nth_text texts 0) of p.1.of in
    let runs = same_run m.run run other p.0 one in
    let high : n ≤ run.shards = subst (λ (r : Run). n ≤ r.shards) runs m.high in
    missing_any run rows texts n m (parts.all n m.low high)

-- ---- all errors

pub refused_only : (rows : List Row) (texts : List (List ℕ)) (e : MergeError) → AreParts rows texts
    → HasMergeError texts e → e ≡ error.OutOfMemory
refused_only rows texts error.OutOfMemory parts h = refl
refused_only rows texts error.NoTexts parts h =
    let some = some_part parts.run rows texts parts.parts in
    let none : length texts ≡ 0 = ap length h in
    absurd (omega arith)
refused_only rows texts (error.InvalidText at why) parts h =
    absurd (flaw_never parts.run rows texts at why parts.parts parts.listed.new h.0 h.1)
refused_only rows texts (error.MissingShard n) parts h = absurd (missing_never parts.run rows texts n parts.parts h)

pub found_only : (rows found : List Row) (texts : List (List ℕ)) → AreParts rows texts → AreParts found texts
    → found ≡ rows
found_only rows found texts parts others =
    one_list others.run parts.run found rows texts others.parts parts.parts

-- so where it answers, and where it refuses, the answer is that list's or memory ran out
pub gives : (texts : List (List ℕ)) (result : Result (List Row) MergeError) → IfOk result (λ rows. AreParts rows texts)
    → IfErr result (HasMergeError texts) → (rows : List Row) → AreParts rows texts → IsRowsOrOutOfMemory rows result
gives texts (Ok found) parts refused rows these = found_only rows found texts these parts
gives texts (Err e) parts refused rows these = refused_only rows texts e these refused

-- the exit with an error
pub gives_err : (texts : List (List ℕ)) (result : Result (List Row) MergeError) (e : MergeError)
    → IsErrAnd result (λ error. error ≡ e) → HasMergeError texts e → (rows : List Row) → AreParts rows texts
    → IsRowsOrOutOfMemory rows result
gives_err texts (Ok found) e is refused rows these = absurd is
gives_err texts (Err error) e is refused rows these = is ∙ refused_only rows texts e these refused
