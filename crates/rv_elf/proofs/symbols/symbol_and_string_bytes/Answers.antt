use Rattle.std.proofs.Common.{◌∙◌, sym}
use Rattle.rv_elf.proofs.Naming.{sections_there, no_section_table, no_symbol_table, bad_symbol_table}
use Rattle.rv_elf.proofs.Naming.{no_string_table, past_string_table, tables_good, tables_found}
use Rattle.rv_elf.proofs.symbols.symbol_and_string_bytes.Goals as goal

pub returns-then-has_bad_section_table-clause-check : goal.returns-then-has_bad_section_table-clause-check
returns-then-has_bad_section_table-clause-check c =
    no_section_table c.args.file.now (sym c.has_bad_section_table.ensures ∙ c.if-has_bad_section_table.true)

pub symbol_table_section-requires : goal.symbol_table_section-requires
symbol_table_section-requires c = sections_there c.args.file.now
    c.requires
    (sym c.has_bad_section_table.ensures ∙ c.if-has_bad_section_table.false)

pub string_table_section-requires : goal.string_table_section-requires
string_table_section-requires c = sections_there c.args.file.now
    c.requires
    (sym c.has_bad_section_table.ensures ∙ c.if-has_bad_section_table.false)

pub returns-in_default-clause-check : goal.returns-in_default-clause-check
returns-in_default-clause-check c =
    no_symbol_table c.args.file.now (sym c.has_bad_section_table.ensures ∙ c.if-has_bad_section_table.false)
    (sym c.in_default.ensures)

pub returns-then-is_bad_symbol_table-clause-check : goal.returns-then-is_bad_symbol_table-clause-check
returns-then-is_bad_symbol_table-clause-check c =
    bad_symbol_table c.args.file.now
    (sym c.has_bad_section_table.ensures ∙ c.if-has_bad_section_table.false) c.in-Some.symbols (sym c.in-Some.ensures)
    (sym c.is_bad_symbol_table.ensures ∙ c.if-is_bad_symbol_table.true)

pub returns-in_default-string_table_section-clause-check : goal.returns-in_default-string_table_section-clause-check
returns-in_default-string_table_section-clause-check c =
    no_string_table c.args.file.now
    (sym c.has_bad_section_table.ensures ∙ c.if-has_bad_section_table.false) c.in-Some.symbols (sym c.in-Some.ensures)
    (sym c.is_bad_symbol_table.ensures ∙ c.if-is_bad_symbol_table.false)
    (sym c.in_default-string_table_section.ensures)

pub returns-then-is_bad_string_table-clause-check : goal.returns-then-is_bad_string_table-clause-check
returns-then-is_bad_string_table-clause-check c =
    past_string_table c.args.file.now
    (sym c.has_bad_section_table.ensures ∙ c.if-has_bad_section_table.false) c.in-Some.symbols (sym c.in-Some.ensures)
    (sym c.is_bad_symbol_table.ensures ∙ c.if-is_bad_symbol_table.false)
    c.in-Some-string_table_section.strings (sym c.in-Some-string_table_section.ensures)
    (sym c.is_bad_string_table.ensures ∙ c.if-is_bad_string_table.true)

pub returns-clause-check : goal.returns-clause-check
returns-clause-check c =
    tables_good c.args.file.now
    (sym c.has_bad_section_table.ensures ∙ c.if-has_bad_section_table.false) c.in-Some.symbols (sym c.in-Some.ensures)
    (sym c.is_bad_symbol_table.ensures ∙ c.if-is_bad_symbol_table.false)
    c.in-Some-string_table_section.strings (sym c.in-Some-string_table_section.ensures)
    (sym c.is_bad_string_table.ensures ∙ c.if-is_bad_string_table.false)

pub returns-clause-bytes : goal.returns-clause-bytes
returns-clause-bytes c =
    tables_found c.args.file.now
    (sym c.has_bad_section_table.ensures ∙ c.if-has_bad_section_table.false) c.in-Some.symbols (sym c.in-Some.ensures)
    (sym c.is_bad_symbol_table.ensures ∙ c.if-is_bad_symbol_table.false)
    c.in-Some-string_table_section.strings (sym c.in-Some-string_table_section.ensures)
    _ _ c.section_bytes.ensures c.section_bytes-2.ensures
