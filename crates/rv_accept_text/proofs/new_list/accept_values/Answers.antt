use Rattle.rv_accept_text.proofs.LeftRuns.{left_once, left_twice}
use Rattle.rv_accept_text.proofs.new_list.accept_values.Goals as goal

pub returns-then-are_intended_jobs-clause-skipped_from : goal.returns-then-are_intended_jobs-clause-skipped_from
returns-then-are_intended_jobs-clause-skipped_from c = left_once c.args.runs.items c.as_slice-2.result.now _ c.in_ok-runs.ensures

pub returns-in-Some-clause-skipped_from : goal.returns-in-Some-clause-skipped_from
returns-in-Some-clause-skipped_from c = left_once c.args.runs.items c.as_slice-2.result.now _ c.in_ok-runs.ensures

pub returns-clause-skipped_from : goal.returns-clause-skipped_from
returns-clause-skipped_from c =
    left_twice c.skip_changed_jobs.result c.args.runs.items c.as_slice-2.result.now _ c.in_ok-runs.ensures
    c.skip_changed_jobs.ensures.skipped
