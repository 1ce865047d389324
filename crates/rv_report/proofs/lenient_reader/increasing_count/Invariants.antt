use Rattle.std.proofs.Common.{◌≡◌, ◌+◌, drop}
use Rattle.rv_report.specs.LenientReport.{increasing_count}
use Rattle.rv_report.proofs.lenient_reader.increasing_count.Given as goal

abbrev pub invariant-loop-at : goal.invariant-loop-at
invariant-loop-at l = l.at + increasing_count l.before (drop l.at l.numbers) ≡ increasing_count 0 l.numbers
