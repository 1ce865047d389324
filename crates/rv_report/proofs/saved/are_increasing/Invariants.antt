use Rattle.std.proofs.Common.{◌≡◌, drop}
use Rattle.rv_report.specs.Saved.{are_increasing}
use Rattle.rv_report.proofs.saved.are_increasing.Given as goal

abbrev pub invariant-loop-number : goal.invariant-loop-number
invariant-loop-number l =
    are_increasing l.previous l.last (drop l.number-index l.numbers) ≡ are_increasing l.previous-2 l.last l.numbers
