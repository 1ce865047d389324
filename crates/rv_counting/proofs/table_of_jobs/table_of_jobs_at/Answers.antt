-- Each job is counted in addition to those before it.
use Rattle.std.proofs.Common.{◌≡◌, ◌∙◌, ◌<◌, ℕ, List, [], take, get_or, length, sym, ap, subst, arith}
use Rattle.std.proofs.lemmas.List.{get_or_read, length-map, length-take-le, take_all}
use Rattle.std.proofs.lemmas.List.Elements.{All-get_or}
use Rattle.rv_count_tables.specs.Table.{IsValidTable}
use Rattle.rv_trace.specs.declared_job.Job.{Job}
use Rattle.rv_trace.specs.Jobs.{single_job}
use Rattle.rv_count_tables.specs.declared.table.AddressCounts.{AddressCounts}
use Rattle.rv_trace.specs.Trace.{job_at}
use Rattle.rv_counting.specs.Counters.{counts_of}
use Rattle.rv_counting.specs.JobTables.{jobs_at, table_of_runs, IsTableOfRange}
use Rattle.rv_counting.specs.RunCounts.{HasCountedJobs}
use Rattle.rv_counting.specs.Tallies.{IsSorted}
use Rattle.rv_counting.proofs.OfImages.{both_ok, image_ran, no_image_ran, nothing_ran}
use Rattle.rv_counting.proofs.RunCounts.{few_runs, next_job, none_counted_at_odd}
use Rattle.rv_counting.proofs.table_of_jobs.table_of_jobs_at.Goals as goal

pub loop-k-init : goal.loop-k-init
loop-k-init c = record { within = omega arith; counted = c.in_ok-counter.ensures c.args.plan.now.results }

pub loop-k-preserved : goal.loop-k-preserved
loop-k-preserved c =
    let t = c.loop-k-test.true in record {
      within = omega (arith, t);
      counted = next_job c.args.plan.now c.args.indices.now c.loop-k.k c.loop-k.counter c.count_job_at.new.counter t c.loop-k.invariant.counted
          c.in_ok-run.ensures.counted;
    }

pub count_job_at-requires-clause-within : goal.count_job_at-requires-clause-within
count_job_at-requires-clause-within c =
    All-get_or (λ (index : ℕ). index < length c.args.plan.now.jobs) c.args.indices.now c.loop-k.k 0 c.loop-k-test.true c.requires.within

pub count_job_at-requires-clause-ready : goal.count_job_at-requires-clause-ready
count_job_at-requires-clause-ready c = c.loop-k.invariant.counted.ready

pub count_job_at-requires-clause-few : goal.count_job_at-requires-clause-few
count_job_at-requires-clause-few c =
    let plan = c.args.plan.now in
    let indices = c.args.indices.now in
    let first = take c.loop-k.k indices in
    let runs = c.loop-k.invariant.counted.runs in
    let few = few_runs plan.results (jobs_at plan first) in
    let long = length-map first (λ index. job_at plan index (single_job [] 0 [])) in
    let most = length-take-le c.loop-k.k indices c.loop-k.invariant.within in
    let t = c.loop-k-test.true in
    let all = c.requires.few in
    omega (arith, runs, few, long, most, t, all)

pub table_of_counter-requires-clause-counted : goal.table_of_counter-requires-clause-counted
table_of_counter-requires-clause-counted c =
    subst (λ ps. HasCountedJobs c.args.plan.now.results (jobs_at c.args.plan.now ps) c.loop-k.counter)
    (take_all c.loop-k.k c.args.indices.now c.loop-k-test.false) c.loop-k.invariant.counted
