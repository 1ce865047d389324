use Rattle.std.proofs.Common.{◌∙◌, ap, length}
use Rattle.rv_choice.proofs.Public.{choice_count}
use Rattle.rvtest_app.proofs.run.ListRun.jobs_of_choice.Goals as goal

pub invariant_of-result : goal.invariant_of-result
invariant_of-result g c = record {
  same_length = λ selection is. choice_count _ c.args.self.now.args.now c.args.self.now.rule c.as_slice.result.now selection.items _
      (rw is at c.in_ok-selection.ensures.chosen) ∙ ap length c.as_slice.ensures.value;
  old_row_per_job = c.requires;
}
