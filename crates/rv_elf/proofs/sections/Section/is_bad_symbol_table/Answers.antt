use Rattle.std.proofs.Common.{rules}
use Rattle.rv_elf.proofs.sections.Section.is_bad_symbol_table.Goals as goal

pub returns-else-self-ne0 : goal.returns-else-self-ne0
returns-else-self-ne0 c = search rules
