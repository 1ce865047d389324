use Rattle.rv_history.proofs.Determined.{one_first_with, one_next_step, one_next_stop, one_step_before, one_stop_before}
use Rattle.rv_history.proofs.law.moves_are_determined.Goals as goal

pub returns : goal.returns
returns c = record {
  ahead = one_next_stop;
  step = one_next_step;
  back = one_stop_before;
  step_back = one_step_before;
  count = one_first_with;
}
