use Rattle.std.proofs.Common.{rules}
use Rattle.rvfleet_app.proofs.list.read_list.Goals as goal

pub returns-in-Ok-read_jobs-clause-listed : goal.returns-in-Ok-read_jobs-clause-listed
returns-in-Ok-read_jobs-clause-listed g c = search rules

pub returns-clause-refused : goal.returns-clause-refused
returns-clause-refused g c = search rules
