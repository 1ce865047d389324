use Rattle.std.proofs.Common.{◌≡◌, ◌++◌, length}
use Rattle.rv_text.specs.Printable.{printable_within}
use Rattle.rv_text.proofs.printable.push_printable_within.Given as goal

abbrev pub invariant-loop-rest : goal.invariant-loop-rest
invariant-loop-rest l =
    l.bytes.items ++ printable_within l.room 0 l.rest ≡ l.initial.bytes.items ++ printable_within l.characters 0 l.text

abbrev pub decreases-loop-rest : goal.decreases-loop-rest
decreases-loop-rest l = length l.rest
