-- The counts of the jobs are those of their image.
use Rattle.std.proofs.Common.{◌≡◌, ◌∙◌, ◌<◌, ℕ, List, [], get_or, length, sym, ap, arith}
use Rattle.std.proofs.lemmas.List.{get_or_read, length-map}
use Rattle.std.proofs.lemmas.List.Elements.{All-get_or}
use Rattle.rv_count_tables.specs.Table.{IsValidTable}
use Rattle.rv_trace.specs.declared_job.Job.{Job}
use Rattle.rv_trace.specs.Jobs.{single_job}
use Rattle.rv_count_tables.specs.declared.table.AddressCounts.{AddressCounts}
use Rattle.rv_trace.specs.Trace.{job_at}
use Rattle.rv_counting.specs.Counters.{counts_of}
use Rattle.rv_counting.specs.JobTables.{jobs_at, table_of_runs, IsTableOfRange}
use Rattle.rv_counting.specs.Tallies.{IsSorted}
use Rattle.rv_counting.proofs.OfImages.{both_ok, image_ran, no_image_ran, nothing_ran}
use Rattle.rv_counting.proofs.RunCounts.{few_runs, none_counted_at_odd}
use Rattle.rv_counting.proofs.table_of_jobs.table_of_counter.Goals as goal

pub returns-in_default : goal.returns-in_default
returns-in_default c = no_image_ran c.args.plan.now c.args.indices.now c.requires.same c.empty_table.result c.empty_table.ensures
    (sym (c.in_default.ensures (single_job [] 0 [])))

pub returns-then-counter-eq0 : goal.returns-then-counter-eq0
returns-then-counter-eq0 c =
    nothing_ran c.args.plan.now c.args.indices.now c.empty_table-then-counter-eq0.result c.empty_table-then-counter-eq0.ensures
    (sym c.requires.counted.runs ∙ c.if-counter-eq0.true)

pub table_of_runs-requires-clause-ready : goal.table_of_runs-requires-clause-ready
table_of_runs-requires-clause-ready c = c.requires.counted.ready

pub table_of_runs-requires-clause-even : goal.table_of_runs-requires-clause-even
table_of_runs-requires-clause-even c = λ at odd.
    let plan = c.args.plan.now in
    none_counted_at_odd plan.results at odd (jobs_at plan c.args.indices.now) c.args.counter c.requires.counted

pub table_of_runs-requires-clause-few : goal.table_of_runs-requires-clause-few
table_of_runs-requires-clause-few c =
    let plan = c.args.plan.now in
    let indices = c.args.indices.now in
    let runs = c.requires.counted.runs in
    let few = few_runs plan.results (jobs_at plan indices) in
    let long = length-map indices (λ index. job_at plan index (single_job [] 0 [])) in
    let all = c.requires.few in
    omega (arith, runs, few, long, all)

pub returns : goal.returns
returns c =
    let plan = c.args.plan.now in
    let indices = c.args.indices.now in
    let file = c.in-Some.bytes.now in
    let path = c.as_str-path.result.now in
    let no_job = single_job [] 0 [] in
    let first = get_or indices 0 0 in
    let counter = c.args.counter in
    let low = All-get_or (λ (index : ℕ). index < length plan.jobs) indices 0 0 c.requires.some c.requires.within in
    let read = get_or_read plan.jobs first c.job.result.now low c.job.ensures.value no_job in
    let other = c.if-counter-eq0.false in
    both_ok c.table_of_runs.result
    (λ table. (addresses : List AddressCounts) × IsSorted (counts_of counter.counter) addresses
    × (table ≡ table_of_runs counter.runs path file addresses)) IsValidTable (IsTableOfRange plan indices)
    (λ t value table.
    image_ran plan indices c.requires.same file path counter value.0 t (sym (c.in-Some.ensures no_job))
    (sym (c.as_str-path.ensures ∙ ap (λ (j : Job). j.image) read)) c.requires.counted (omega (arith, other)) value.1 value.2 table)
    c.table_of_runs.ensures.value c.table_of_runs.ensures.table
