use Rattle.std.proofs.Common.{◌≡◌, All}
use Rattle.rv_engine.proofs.threads.split_passes.Given as goal

abbrev pub invariant-loop : goal.invariant-loop
invariant-loop l = (l.last.draw ≡ l.claims) × All (λ pass. pass.draw ≡ l.claims) l.passes.items
