use Rattle.std.proofs.Common.{rules}
use Rattle.rv_elf.specs.ImageChecks.{segments_and_entry_check}
use Rattle.rv_elf.proofs.image.check_segments_and_entry.Goals as goal

pub returns : goal.returns
unfolding segments_and_entry_check
returns c = search rules
