use Rattle.std.proofs.Common.{◌≡◌, ◌+◌, drop}
use Rattle.rv_report.specs.LenientReport.{index_of_byte}
use Rattle.rv_report.proofs.fields.index_of_byte.Given as goal

abbrev pub invariant-loop-index : goal.invariant-loop-index
invariant-loop-index l = l.index + index_of_byte l.byte (drop l.index l.text) ≡ index_of_byte l.byte l.text
