use Rattle.std.proofs.Common.{◌≡◌, ◌++◌, take}
use Rattle.rv_choice.specs.UnknownName.{names_from}
use Rattle.rv_choice.proofs.unknown_name.push_first_names.Given as goal

abbrev pub invariant-loop-index : goal.invariant-loop-index
invariant-loop-index l =
    l.message.items ≡ l.initial.message.items ++ names_from 0 l.count (take l.index l.jobs)
