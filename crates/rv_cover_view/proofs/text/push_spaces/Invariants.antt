use Rattle.std.proofs.Common.{◌≡◌, ◌++◌, replicate}
use Rattle.rv_cover_view.proofs.text.push_spaces.Given as goal

abbrev pub invariant-loop : goal.invariant-loop
invariant-loop l = l.bytes.items ≡ l.initial.bytes.items ++ replicate l.counter 32
