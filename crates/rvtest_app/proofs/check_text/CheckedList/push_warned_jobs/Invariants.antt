use Rattle.std.proofs.Common.{◌≡◌, ◌≤◌, ◌++◌, length, take}
use Rattle.std.specs.List.{filter}
use Rattle.rv_expect.specs.TwoEnds.{expects_two_ends}
use Rattle.rvtest_app.specs.CheckText.{warned_job_text}
use Rattle.rvtest_app.proofs.JobTexts.{texts_before}
use Rattle.rvtest_app.proofs.check_text.CheckedList.push_warned_jobs.Given as goal

abbrev pub invariant-loop-index : goal.invariant-loop-index
invariant-loop-index l = record {
  text : l.text.items ≡ l.fn.text.items ++ texts_before
      (warned_job_text l.self.path.now l.self.lines.now) l.self.plan.now.jobs l.index;
  count : l.warned ≡ length (filter expects_two_ends (take l.index l.self.plan.now.jobs));
  within : l.warned ≤ l.index;
}
