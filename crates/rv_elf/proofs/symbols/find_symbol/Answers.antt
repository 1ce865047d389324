use Rattle.std.proofs.Common.{sym, Some, None}
use Rattle.std.proofs.lemmas.Result.{err_from_is_err_and}
use Rattle.rv_elf.proofs.Naming.{header_there, name_refused, name_looked_up}
use Rattle.rv_elf.proofs.symbols.find_symbol.Goals as goal

pub symbol_and_string_bytes-requires : goal.symbol_and_string_bytes-requires
symbol_and_string_bytes-requires c = header_there c.args.file.now c.args.image.now c.requires.image

pub returns-in_err-table : goal.returns-in_err-table
returns-in_err-table c =
    let error = err_from_is_err_and c.from_residual.result c.from_residual.ensures.1 in
    rw (error.1, error.2) (sym (name_refused c.args.file.now c.args.name.now _ c.in_err-table.ensures.check))

pub returns-in-Some : goal.returns-in-Some
returns-in-Some c =
    sym (name_looked_up c.args.file.now c.args.name.now c.in_ok-table.table.now c.in_ok-table.strings.now
    (Some c.in-Some.value) c.in_ok-table.ensures.check c.in_ok-table.ensures.bytes c.in-Some.ensures)

pub returns-in-None : goal.returns-in-None
returns-in-None c =
    sym (name_looked_up c.args.file.now c.args.name.now c.in_ok-table.table.now c.in_ok-table.strings.now
    None c.in_ok-table.ensures.check c.in_ok-table.ensures.bytes c.in-None.ensures)
