use Rattle.std.proofs.Common.{arith}
use Rattle.std.proofs.lemmas.Grind.{common_steps}
use Rattle.rv_elf.proofs.program_headers.loaded_segments.Goals as goal

pub loop-header-preserved : goal.loop-header-preserved
loop-header-preserved c = grind (arith, common_steps)
