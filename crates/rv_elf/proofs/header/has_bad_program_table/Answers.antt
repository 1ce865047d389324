use Rattle.std.proofs.Common.{rules}
use Rattle.rv_elf.proofs.header.has_bad_program_table.Goals as goal

pub returns-else-half_field-ne-PROGRAM_HEADER_SIZE : goal.returns-else-half_field-ne-PROGRAM_HEADER_SIZE
returns-else-half_field-ne-PROGRAM_HEADER_SIZE c = search rules
