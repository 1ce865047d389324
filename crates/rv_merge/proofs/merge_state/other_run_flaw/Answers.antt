use Rattle.std.proofs.Common.{rules}
use Rattle.rv_merge.proofs.merge_state.other_run_flaw.Goals as goal

pub returns : goal.returns
returns c = search rules
