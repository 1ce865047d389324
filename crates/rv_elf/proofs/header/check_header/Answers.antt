use Rattle.std.proofs.Common.{rules}
use Rattle.rv_elf.specs.ImageChecks.{header_check}
use Rattle.rv_elf.proofs.header.check_header.Goals as goal

pub returns-then-file-lt-ELF_HEADER_SIZE-clause-value : goal.returns-then-file-lt-ELF_HEADER_SIZE-clause-value
unfolding header_check
returns-then-file-lt-ELF_HEADER_SIZE-clause-value c = search rules

pub returns-then-file-ne-ELFCLASS32-clause-value : goal.returns-then-file-ne-ELFCLASS32-clause-value
unfolding header_check
returns-then-file-ne-ELFCLASS32-clause-value c = search rules

pub returns-then-file-ne-ELFDATA2LSB-clause-value : goal.returns-then-file-ne-ELFDATA2LSB-clause-value
unfolding header_check
returns-then-file-ne-ELFDATA2LSB-clause-value c = search rules

pub returns-then-has_bad_version-clause-value : goal.returns-then-has_bad_version-clause-value
unfolding header_check
returns-then-has_bad_version-clause-value c = search rules

pub returns-then-half_field-ne-ET_EXEC-clause-value : goal.returns-then-half_field-ne-ET_EXEC-clause-value
unfolding header_check
returns-then-half_field-ne-ET_EXEC-clause-value c = search rules

pub returns-then-half_field-ne-EM_RISCV-clause-value : goal.returns-then-half_field-ne-EM_RISCV-clause-value
unfolding header_check
returns-then-half_field-ne-EM_RISCV-clause-value c = search rules

pub returns-then-has_bad_program_table-clause-value : goal.returns-then-has_bad_program_table-clause-value
unfolding header_check
returns-then-has_bad_program_table-clause-value c = search rules
