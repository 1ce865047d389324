use Rattle.std.proofs.Common.{◌≡◌, ◌++◌, take}
use Rattle.rvtest_app.specs.Lists.{name_lines}
use Rattle.rvtest_app.proofs.list.push_name_lines.Given as goal

abbrev pub invariant-loop-at : goal.invariant-loop-at
invariant-loop-at l = l.names.items ≡ l.fn.names.items ++ name_lines l.jobs (take l.at l.indices)
