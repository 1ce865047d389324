use Rattle.std.proofs.Common.{◌≡◌, ◌≤◌, ◌++◌, length, take}
use Rattle.std.specs.List.{filter}
use Rattle.rvtest_app.specs.CheckText.{refused_job_text}
use Rattle.rvtest_app.specs.Commands.{is_job_refused}
use Rattle.rvtest_app.proofs.JobTexts.{texts_before}
use Rattle.rvtest_app.proofs.check_text.CheckedList.push_refused_jobs.Given as goal

abbrev pub invariant-loop-index : goal.invariant-loop-index
invariant-loop-index l = record {
  text : l.text.items ≡ l.fn.text.items ++ texts_before
      (refused_job_text l.self.path.now l.self.lines.now l.self.plan.now l.self.unread.now) l.self.plan.now.jobs l.index;
  count : l.refused ≡ length (filter (is_job_refused l.self.plan.now) (take l.index l.self.plan.now.jobs));
  within : l.refused ≤ l.index;
}
