-- The counts and the stacks are those of the run that begins where the job's does.
use Rattle.std.proofs.Common.{◌∙◌, Some, None, Result, get_or, sym, ap, subst, arith}
use Rattle.std.proofs.lemmas.List.{get_or_read}
use Rattle.rv_counting.proofs.Public.{counts_even, start_even}
use Rattle.rv_counting.specs.Coverage.{AreCountsOf}
use Rattle.rv_counting.specs.declared_job.Job.{Job}
use Rattle.rv_counting.specs.Machine.{state_of}
use Rattle.rv_counting.specs.State.{State}
use Rattle.rv_counting.specs.declared_row.Refusal.{Refusal}
use Rattle.rv_stacks.specs.Stacks.{function_at, AreCountsAndStacksOfJob, AreStacksOf}
use Rattle.rv_stacks.proofs.job.count_job_with_stacks.Goals as goal

pub returns-in_ok-count_with_stacks-in-Ok-clause-counts_and_stacks : goal.returns-in_ok-count_with_stacks-in-Ok-clause-counts_and_stacks
returns-in_ok-count_with_stacks-in-Ok-clause-counts_and_stacks c d =
    let start = rw c.in-Ok.is at c.in_ok-machine.ensures in
    let jobs = c.args.job.now.plan.now.jobs in
    let index = c.args.job.now.index in
    let function = function_at c.args.symbols.now.image.now c.args.symbols.now.bytes.now in
    let same = get_or_read jobs index c.job.result.now c.args.job.now.within c.job.ensures.value d in
    let both = c.in_ok-count_with_stacks-in-Ok.field-0 in
    subst (λ (r : Result State Refusal). AreCountsAndStacksOfJob function (get_or jobs index d).budget r (Some both)) (sym (start d))
    (subst (λ (j : Job). AreCountsOf j.budget (state_of c.in-Ok.machine) both.0 × AreStacksOf function j.budget (state_of c.in-Ok.machine) both.1)
    same (c.in_ok-count_with_stacks-in-Ok.ensures.counts, c.in_ok-count_with_stacks-in-Ok.ensures.stacks))

pub returns-in_ok-count_with_stacks-in-Ok-clause-table : goal.returns-in_ok-count_with_stacks-in-Ok-clause-table
returns-in_ok-count_with_stacks-in-Ok-clause-table c =
    let start = rw c.in-Ok.is at c.in_ok-machine.ensures in
    let plan = c.args.job.now.plan.now in
    let d = c.job.result.now in
    counts_even _ (state_of c.in-Ok.machine) c.in_ok-count_with_stacks-in-Ok.field-0.0 c.in_ok-count_with_stacks-in-Ok.ensures.counts
    (start_even (get_or plan.jobs c.args.job.now.index d) (state_of c.in-Ok.machine) plan.results (start d))

pub returns-in_ok-count_with_stacks-in-Ok-clause-budget : goal.returns-in_ok-count_with_stacks-in-Ok-clause-budget
returns-in_ok-count_with_stacks-in-Ok-clause-budget c d = λ s start.
    let jobs = c.args.job.now.plan.now.jobs in
    let same = get_or_read jobs c.args.job.now.index c.job.result.now c.args.job.now.within c.job.ensures.value d in
    let budget = ap (λ (j : Job). j.budget) same in
    omega (arith, budget)

pub returns-in-Err-clause-budget : goal.returns-in-Err-clause-budget
returns-in-Err-clause-budget c d = λ s start.
    absurd (let refused = rw c.in-Err.is at c.in_ok-machine.ensures in let e = sym start ∙ refused d in cc)

pub returns-in-Err-clause-counts_and_stacks : goal.returns-in-Err-clause-counts_and_stacks
returns-in-Err-clause-counts_and_stacks c d =
    let start = rw c.in-Err.is at c.in_ok-machine.ensures in
    let jobs = c.args.job.now.plan.now.jobs in
    let index = c.args.job.now.index in
    let function = function_at c.args.symbols.now.image.now c.args.symbols.now.bytes.now in
    subst (λ (r : Result State Refusal). AreCountsAndStacksOfJob function (get_or jobs index d).budget r None) (sym (start d)) tt
