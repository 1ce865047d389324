-- Each job has its row, and is counted in addition to those before it.
use Rattle.std.proofs.Common.{◌≡◌, ◌∙◌, ◌<◌, ℕ, [], take, length, ap, subst, arith}
use Rattle.std.proofs.lemmas.List.{length-map, length-take-le, take_all}
use Rattle.std.proofs.lemmas.List.Elements.{All-get_or}
use Rattle.rv_trace.specs.Jobs.{single_job}
use Rattle.rv_trace.specs.Rows.{rows_at}
use Rattle.rv_trace.specs.Trace.{job_at}
use Rattle.rv_counting.specs.JobTables.{jobs_at}
use Rattle.rv_counting.specs.RunCounts.{HasCountedJobs}
use Rattle.rv_counting.proofs.RunCounts.{few_runs, next_job, next_row, no_rows}
use Rattle.rv_counting.proofs.counted_rows.count_rows_at.Goals as goal

pub loop-k-init : goal.loop-k-init
loop-k-init c = record {
  within = omega arith;
  counted = c.in_ok-counter.ensures c.args.plan.now.results;
  rows = c.in_ok-rows.ensures.items ∙ no_rows c.args.plan.now;
  recent = c.requires.recent;
}

pub loop-k-preserved : goal.loop-k-preserved
loop-k-preserved c =
    let t = c.loop-k-test.true in record {
      within = omega (arith, t);
      counted = next_job c.args.plan.now c.args.indices.now c.loop-k.k c.loop-k.counter c.count_row_at.new.counter t c.loop-k.invariant.counted
          c.in_ok-row.ensures.counted;
      rows = next_row c.args.plan.now c.args.indices.now c.loop-k.k c.loop-k.rows.items _ c.in_ok-row.row t c.loop-k.invariant.rows
          c.in_ok-row.ensures.row c.in_ok-push.ensures.items;
      recent = c.in_ok-row.ensures.recent;
    }

pub count_row_at-requires-clause-within : goal.count_row_at-requires-clause-within
count_row_at-requires-clause-within c =
    All-get_or (λ (index : ℕ). index < length c.args.plan.now.jobs) c.args.indices.now c.loop-k.k 0 c.loop-k-test.true c.requires.within

pub count_row_at-requires-clause-ready : goal.count_row_at-requires-clause-ready
count_row_at-requires-clause-ready c = c.loop-k.invariant.counted.ready

pub count_row_at-requires-clause-few : goal.count_row_at-requires-clause-few
count_row_at-requires-clause-few c =
    let plan = c.args.plan.now in
    let indices = c.args.indices.now in
    let first = take c.loop-k.k indices in
    let runs = c.loop-k.invariant.counted.runs in
    let few = few_runs plan.results (jobs_at plan first) in
    let long = length-map first (λ index. job_at plan index (single_job [] 0 [])) in
    let most = length-take-le c.loop-k.k indices c.loop-k.invariant.within in
    let t = c.loop-k-test.true in
    let all = c.requires.few in
    omega (arith, runs, few, long, most, t, all)

pub table_of_counter-requires-clause-counted : goal.table_of_counter-requires-clause-counted
table_of_counter-requires-clause-counted c =
    subst (λ ps. HasCountedJobs c.args.plan.now.results (jobs_at c.args.plan.now ps) c.loop-k.counter)
    (take_all c.loop-k.k c.args.indices.now c.loop-k-test.false) c.loop-k.invariant.counted

pub returns-clause-rows : goal.returns-clause-rows
returns-clause-rows c =
    c.loop-k.invariant.rows ∙ ap (rows_at c.args.plan.now) (take_all c.loop-k.k c.args.indices.now c.loop-k-test.false)
