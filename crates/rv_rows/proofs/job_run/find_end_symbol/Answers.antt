use Rattle.std.proofs.Common.{rules}
use Rattle.rv_rows.proofs.job_run.find_end_symbol.Goals as goal

pub returns-in-Err-NoBegin : goal.returns-in-Err-NoBegin
returns-in-Err-NoBegin c = let found = c.in-Err-NoBegin.ensures in search rules
