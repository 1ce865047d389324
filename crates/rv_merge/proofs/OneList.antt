-- Texts are the parts of one list of rows, and then none of them is refused.
use Rattle.std.proofs.Common.{◌≡◌, ◌∙◌, ◌+◌, ◌-◌, ◌%◌, ◌<◌, ◌≤◌, ℕ, true, ◌&&◌, List, []}
use Rattle.std.proofs.Common.{length, Some, sym, ap, arith, subst}
use Rattle.std.specs.Prelude.{slice_get, nat_le, Any}
use Rattle.std.proofs.Common.{inl, inr}
use Rattle.std.proofs.lemmas.Bool.{and_parts, cases_lt, leb-true}
use Rattle.std.proofs.lemmas.Option.{same_Some, slice_get_past}
use Rattle.std.proofs.lemmas.List.{get_or_default}
use Rattle.rv_rows.specs.Names.{is_name}
use Rattle.rv_rows.specs.Limits.{max_jobs}
use Rattle.rv_rows.specs.declared_row.Row.{Row}
use Rattle.rv_rows.specs.declared_saved.Extent.{Extent}
use Rattle.rv_rows.specs.declared_saved.Extent.TheVariants as extent
use Rattle.rv_rows.specs.declared_saved.Shard.{Shard}
use Rattle.rv_rows.specs.declared_saved.SavedReport.{SavedReport}
use Rattle.rv_rows.specs.Saved.{IsValidReport, are_evenly_spaced, matches_job_numbers, is_valid_shard}
use Rattle.rv_rows.proofs.Public.{same_reports}
use Rattle.rv_merge.specs.Parts.{ArePartsOfRun, IsReportWithExtent, IsPartOfRows, Run, run_of_shard, shard_in, nth_text}
use Rattle.rv_merge.proofs.Slots.{same_by_get, under}
use Rattle.rv_merge.proofs.Stepping.{shard_at, stepped_has}

-- ---- the shard of a text

-- what is known of a shard that a report can have
pub record IsGood (s : Shard) : Type 0 where
  pub low : 0 < s.number
  pub high : s.number ≤ s.shards
  pub shards : s.shards ≤ max_jobs
  pub jobs : s.jobs ≤ max_jobs

pub good_shard : (s : Shard) → is_valid_shard s ≡ true → IsGood s
unfolding is_valid_shard
good_shard s h =
    let jobs = nat_le s.jobs max_jobs && is_name s.stamp in
    let shards = nat_le s.shards max_jobs && jobs in
    let number = nat_le s.number s.shards && shards in
    let a = and_parts (nat_le 1 s.number) number h in
    let b = and_parts (nat_le s.number s.shards) shards a.1 in
    let c = and_parts (nat_le s.shards max_jobs) jobs b.1 in
    let d = and_parts (nat_le s.jobs max_jobs) (is_name s.stamp) c.1 in
    let low : 1 ≤ s.number = leb-true 1 s.number a.0 in
    record {
      low = omega arith;
      high = leb-true s.number s.shards b.0;
      shards = leb-true s.shards max_jobs c.0;
      jobs = leb-true s.jobs max_jobs d.0;
    }

-- the numbers of a shard's report are those of its jobs
pub record HasNumbers (s : Shard) (ns : List ℕ) : Type 0 where
  pub good : IsGood s
  pub stepped : are_evenly_spaced s.number s.shards s.jobs ns ≡ true

fits_shard : (s : Shard) (ns : List ℕ) → matches_job_numbers (extent.Shard s) ns ≡ true → HasNumbers s ns
unfolding matches_job_numbers
fits_shard s ns h =
    let p = and_parts (is_valid_shard s) (are_evenly_spaced s.number s.shards s.jobs ns) h in
    record { good = good_shard s p.0; stepped = p.1 }

pub numbers_of_shard : (s : Shard) (r : SavedReport) → IsValidReport r → r.extent ≡ extent.Shard s → HasNumbers s r.numbers
numbers_of_shard s r saved is =
    fits_shard s r.numbers (subst (λ (e : Extent). matches_job_numbers e r.numbers ≡ true) is saved.listed.fits)

-- ---- one text is that of one report

pub one_report : (jobs others : Extent) (bytes : List ℕ) (x : IsReportWithExtent jobs bytes) (y : IsReportWithExtent others bytes)
    → x.report ≡ y.report
one_report jobs others bytes x y = same_reports x.report y.report x.saved y.saved (x.text ∙ sym y.text)

pub one_extent : (jobs others : Extent) (bytes : List ℕ) → IsReportWithExtent jobs bytes → IsReportWithExtent others bytes
    → jobs ≡ others
one_extent jobs others bytes x y =
    sym x.extent ∙ ap (λ (r : SavedReport). r.extent) (one_report jobs others bytes x y) ∙ y.extent

same_shard : (s t : Shard) → extent.Shard s ≡ extent.Shard t → s ≡ t
same_shard s t e = cc

pub one_shard_of : (s t : Shard) (bytes : List ℕ) → IsReportWithExtent (extent.Shard s) bytes
    → IsReportWithExtent (extent.Shard t) bytes → s ≡ t
one_shard_of s t bytes x y = same_shard s t (one_extent (extent.Shard s) (extent.Shard t) bytes x y)

-- ---- the text that has a job

-- a part that has the job at a place, and where its row stands there
pub record HasJob (run : Run) (rows : List Row) (texts : List (List ℕ)) (place : ℕ) : Type 0 where
  pub at : ℕ
  pub within : at < length texts
  pub n : ℕ
  pub part : IsPartOfRows rows run n (nth_text texts at)
  pub q : ℕ
  pub there : slice_get part.of.report.numbers q ≡ Some (place + 1)

part_has_job : (run : Run) (rows : List Row) (n place : ℕ) (bytes : List ℕ) (p : IsPartOfRows rows run n bytes)
    → n ≤ place + 1 → place < run.jobs → (place + 1) % run.shards ≡ n % run.shards
    → (q : ℕ) × (slice_get p.of.report.numbers q ≡ Some (place + 1))
part_has_job run rows n place bytes p low high same =
    let has = numbers_of_shard (shard_in run n) p.of.report p.of.saved p.of.extent in
    stepped_has n run.shards run.jobs p.of.report.numbers (place + 1) has.stepped low (omega arith) same

any_job : (run : Run) (rows : List Row) (texts : List (List ℕ)) (n place : ℕ) → Any (IsPartOfRows rows run n) texts
    → n ≤ place + 1 → place < run.jobs → (place + 1) % run.shards ≡ n % run.shards → HasJob run rows texts place
any_job run rows texts n place (k, x, within, is, p) low high same =
    let here : x ≡ nth_text texts k = sym is ∙ get_or_default texts k x [] within in
    let part : IsPartOfRows rows run n (nth_text texts k) = subst (λ (b : List ℕ). IsPartOfRows rows run n b) here p in
    let there = part_has_job run rows n place (nth_text texts k) part low high same in
    record { at = k; within = within; n = n; part = part; q = there.0; there = there.1 }

pub job_from_table : (run : Run) (rows : List Row) (texts : List (List ℕ)) (place : ℕ) → ArePartsOfRun run rows texts
    → place < length rows → HasJob run rows texts place
job_from_table run rows texts place parts within =
    let shard = shard_at run.shards place parts.some in
    let jobs = parts.jobs in
    any_job run rows texts (place % run.shards + 1) place
    (parts.all (place % run.shards + 1) shard.low shard.high) shard.below (omega arith) shard.same

-- the row of a job, in the report of its part
pub row_in : (run : Run) (rows : List Row) (texts : List (List ℕ)) (place : ℕ) (h : HasJob run rows texts place)
    → (row : Row) × (slice_get h.part.of.report.rows h.q ≡ Some row) × (slice_get rows (place + 1 - 1) ≡ Some row)
row_in run rows texts place h =
    let report = h.part.of.report in
    under (λ m. slice_get rows (m - 1)) report.numbers report.rows h.q (place + 1) h.part.has h.there

-- ---- one list

-- some text there is
pub record SomePart (run : Run) (rows : List Row) (texts : List (List ℕ)) : Type 0 where
  pub at : ℕ
  pub within : at < length texts
  pub n : ℕ
  pub part : IsPartOfRows rows run n (nth_text texts at)

some_any : (run : Run) (rows : List Row) (texts : List (List ℕ)) (n : ℕ) → Any (IsPartOfRows rows run n) texts
    → SomePart run rows texts
some_any run rows texts n (k, x, within, is, p) =
    let here : x ≡ nth_text texts k = sym is ∙ get_or_default texts k x [] within in
    record {
      at = k;
      within = within;
      n = n;
      part = subst (λ (b : List ℕ). IsPartOfRows rows run n b) here p;
    }

pub some_part : (run : Run) (rows : List Row) (texts : List (List ℕ)) → ArePartsOfRun run rows texts
    → SomePart run rows texts
some_part run rows texts parts = some_any run rows texts 1 (parts.all 1 (omega arith) parts.some)

pub each_part : (run : Run) (rows : List Row) (texts : List (List ℕ)) (at : ℕ) → ArePartsOfRun run rows texts
    → at < length texts → (n : ℕ) × IsPartOfRows rows run n (nth_text texts at)
each_part run rows texts at parts within = parts.each at [] within

pub same_run : (run other : Run) (n m : ℕ) → shard_in run n ≡ shard_in other m → run ≡ other
same_run run other n m e = ap run_of_shard e

-- texts are those of one run
pub one_run : (run other : Run) (rows others : List Row) (texts : List (List ℕ)) → ArePartsOfRun run rows texts
    → ArePartsOfRun other others texts → run ≡ other
one_run run other rows others texts parts more =
    let some = some_part run rows texts parts in
    let that = each_part other others texts some.at more some.within in
    same_run run other some.n that.0
    (one_shard_of (shard_in run some.n) (shard_in other that.0) (nth_text texts some.at) some.part.of that.1.of)

same_row : (run other : Run) (rows others : List Row) (texts : List (List ℕ)) (place : ℕ) → ArePartsOfRun run rows texts
    → ArePartsOfRun other others texts → place < length rows → slice_get rows place ≡ slice_get others place
same_row run other rows others texts place parts more within =
    let job = job_from_table run rows texts place parts within in
    let row = row_in run rows texts place job in
    let that = each_part other others texts job.at more job.within in
    let is : job.part.of.report ≡ that.1.of.report =
    one_report (extent.Shard (shard_in run job.n)) (extent.Shard (shard_in other that.0)) (nth_text texts job.at)
    job.part.of that.1.of in
    let there : slice_get that.1.of.report.numbers job.q ≡ Some (place + 1) =
    subst (λ (r : SavedReport). slice_get r.numbers job.q ≡ Some (place + 1)) is job.there in
    let again = under (λ m. slice_get others (m - 1)) that.1.of.report.numbers that.1.of.report.rows job.q (place + 1)
    that.1.has there in
    let one : row.0 ≡ again.0 =
    same_Some row.0 again.0
    (sym row.1 ∙ ap (λ (r : SavedReport). slice_get r.rows job.q) is ∙ again.1) in
    let k : place + 1 - 1 ≡ place = omega arith in
    subst (λ (i : ℕ). slice_get rows i ≡ slice_get others i) k (row.2 ∙ ap Some one ∙ sym again.2)

-- and of one list of rows
pub one_list : (run other : Run) (rows others : List Row) (texts : List (List ℕ)) → ArePartsOfRun run rows texts
    → ArePartsOfRun other others texts → rows ≡ others
one_list run other rows others texts parts more =
    let runs = one_run run other rows others texts parts more in
    let long : length rows ≡ length others = sym parts.jobs ∙ ap (λ (r : Run). r.jobs) runs ∙ more.jobs in
    same_by_get rows others (λ k. at k long)
  where
    at : (k : ℕ) → length rows ≡ length others → slice_get rows k ≡ slice_get others k
    at k long = elim (cases_lt k (length rows)) [
      | inl within ↦ same_row run other rows others texts k parts more within
      | inr past ↦ slice_get_past rows k past ∙ sym (slice_get_past others k (omega arith))
    ]
