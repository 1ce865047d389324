use Rattle.std.proofs.Common.{◌≡◌, length}
use Rattle.rv_expect.specs.Reference.{read_reference}
use Rattle.rv_expect.proofs.References.{after}
use Rattle.rv_expect.proofs.reference.read_reference.Given as goal

abbrev pub invariant-loop-rest : goal.invariant-loop-rest
invariant-loop-rest l = after l.words.items (read_reference l.rest) ≡ read_reference l.fn.text

abbrev pub decreases-loop-rest : goal.decreases-loop-rest
decreases-loop-rest l = length l.rest
