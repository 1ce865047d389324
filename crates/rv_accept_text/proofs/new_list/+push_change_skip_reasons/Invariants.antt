use Rattle.std.proofs.Common.{length}
use Rattle.rv_accept_text.proofs.new_list.+push_change_skip_reasons.Given as goal

abbrev pub decreases-push_change_skip_reasons : goal.decreases-push_change_skip_reasons
decreases-push_change_skip_reasons l = length l.jobs.now
