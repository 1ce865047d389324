use Rattle.rv_junit.proofs.Laws.{all_are_counted}
use Rattle.rv_junit.proofs.law.each_row_is_counted_once.Goals as goal

pub returns : goal.returns
returns c = all_are_counted
