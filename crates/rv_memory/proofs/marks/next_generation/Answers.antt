use Rattle.std.proofs.Common.{arith}
use Rattle.rv_memory.proofs.marks.next_generation.Goals as goal

pub returns-then-generation-lt65535-clause-older : goal.returns-then-generation-lt65535-clause-older
returns-then-generation-lt65535-clause-older c = λ k. omega (arith, c.requires k)
