use Rattle.std.proofs.Common.{◌≡◌, length, min, take}
use Rattle.rv_list_errors.specs.FaultHeads.{borrowed_names}
use Rattle.rv_list_errors.specs.NearNames.{Adds, max_listed_names, names_from, present}
use Rattle.rv_list_errors.proofs.names.push_first_names.Given as goal

abbrev pub invariant-loop-name : goal.invariant-loop-name
invariant-loop-name l = record {
  told : l.listed_count ≡ min (length (present (take l.name-index (borrowed_names l.names)))) max_listed_names;
  text : Adds l.initial.message l.message
      (names_from l.count 0 (take max_listed_names (present (take l.name-index (borrowed_names l.names)))));
}
