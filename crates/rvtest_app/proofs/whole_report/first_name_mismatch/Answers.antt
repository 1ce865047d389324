use Rattle.std.proofs.Common.{◌≡◌, ◌<◌, ◌∙◌, ◌+◌, ℕ, Bool, true, false, List, add-one, arith, get_or, length, not, refl, sym, take}
use Rattle.std.proofs.Math.Seq.{take-suc}
use Rattle.std.proofs.lemmas.List.{get_or-map, length-map}
use Rattle.std.proofs.lemmas.Slice.Eq.{bytes_eq-Decides}
use Rattle.std.specs.Str.{bytes_eq}
use Rattle.rv_rows.specs.declared_job.Job.{Job}
use Rattle.rv_rows.specs.Saved.{row_names}
use Rattle.rv_rows.specs.declared_row.Row.{Row}
use Rattle.rvtest_app.specs.IntoReports.{job_names}
use Rattle.rvtest_app.proofs.whole_report.first_name_mismatch.Goals as goal

was_true : (answer : Bool) → not answer ≡ false → answer ≡ true
was_true true is = refl
was_true false is = absurd cc

same_bytes : (met listed : List ℕ) → not (bytes_eq met listed) ≡ false → met ≡ listed
same_bytes met listed is = (bytes_eq-Decides met listed).0 (was_true (bytes_eq met listed) is)

-- the first names of two lists, and one more
one_more : (names all : List (List ℕ)) (index : ℕ) (name : List ℕ) → index < length names → index < length all
    → take index names ≡ take index all → get_or names index name ≡ name → get_or all index name ≡ name
    → take (index + 1) names ≡ take (index + 1) all
one_more names all index name within among same met listed =
    rw (add-one index, take-suc names index name within, take-suc all index name among, same, met, listed) refl

pub loop-index-preserved : goal.loop-index-preserved
loop-index-preserved c =
    let rows = c.args.rows.now in
    let jobs = c.args.jobs.now in
    let index = c.loop-index.index in
    let name = c.as_str-in_report.result.now in
    let within = c.loop-index-test.true in
    let met = get_or-map (λ (row : Row). row.name) rows index c.index-rows-index.result name within
    ∙ sym c.as_str-in_report.ensures in
    let among : index < length jobs = omega (arith, within, c.requires) in
    let same = same_bytes name c.as_str-listed.result.now (sym c.ne.ensures ∙ c.if-ne.false) in
    let listed = get_or-map (λ (job : Job). job.name) jobs index c.index-jobs-index.result name among
    ∙ sym c.as_str-listed.ensures ∙ sym same in
    one_more (row_names rows) (job_names jobs) index name
    (rw (length-map rows (λ (row : Row). row.name)) within) (rw (length-map jobs (λ (job : Job). job.name)) among)
    c.loop-index.invariant met listed
