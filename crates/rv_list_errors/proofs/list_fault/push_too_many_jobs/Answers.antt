use Rattle.std.proofs.Common.{◌++◌}
use Rattle.std.specs.Fmt.{decimal}
use Rattle.std.specs.Prelude.{codes}
use Rattle.rv_lists.specs.Limits.{max_jobs}
use Rattle.rv_list_errors.proofs.Messages.{adds_then}
use Rattle.rv_list_errors.proofs.list_fault.push_too_many_jobs.Goals as goal

pub returns : goal.returns
returns c =
    adds_then c.args.message.now c.push_number_between.new.self c.push_number.new.self
    (codes "too many jobs: expected at most " ++ (decimal max_jobs ++ codes ", found ")) (decimal c.args.count)
    c.push_number_between.ensures c.push_number.ensures
