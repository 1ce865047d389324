use Rattle.std.proofs.Common.{Some, None}
use Rattle.rv_elf.proofs.Naming.{header_there}
use Rattle.rv_elf.proofs.CurrentVerdict.{no_tables, by_nearest, by_name}
use Rattle.rv_elf.proofs.symbol_search.nearest_symbol.Goals as goal

pub symbol_and_string_bytes-requires : goal.symbol_and_string_bytes-requires
symbol_and_string_bytes-requires c = header_there c.args.file.now c.args.image.now c.requires.image

pub returns-in_default : goal.returns-in_default
returns-in_default c =
    no_tables c.args.kind c.args.image.now c.args.file.now c.args.addr _ c.in_default.ensures.check

pub returns-in_err-symbol : goal.returns-in_err-symbol
returns-in_err-symbol c = rw c.from_residual.ensures
    (by_nearest c.args.kind c.args.image.now c.args.file.now c.args.addr c.in-Ok.table.now c.in-Ok.strings.now
    c.in-Ok.ensures.check c.in-Ok.ensures.bytes c.as_slice.result.now c.as_slice.ensures
    None c.in_err-symbol.ensures.value)

pub returns-in_err-text_before_zero : goal.returns-in_err-text_before_zero
returns-in_err-text_before_zero c = rw c.from_residual-in_err-text_before_zero.ensures
    (by_name c.args.kind c.args.image.now c.args.file.now c.args.addr c.in-Ok.table.now c.in-Ok.strings.now
    c.in-Ok.ensures.check c.in-Ok.ensures.bytes c.as_slice.result.now c.as_slice.ensures
    c.nearest_candidate.result c.nearest_candidate.ensures.value c.in_ok-symbol.symbol c.in_ok-symbol.was
    c.bytes_from.result.now c.bytes_from.ensures None c.in_err-text_before_zero.ensures)

pub returns : goal.returns
returns c =
    by_name c.args.kind c.args.image.now c.args.file.now c.args.addr c.in-Ok.table.now c.in-Ok.strings.now
    c.in-Ok.ensures.check c.in-Ok.ensures.bytes c.as_slice.result.now c.as_slice.ensures
    c.nearest_candidate.result c.nearest_candidate.ensures.value c.in_ok-symbol.symbol c.in_ok-symbol.was
    c.bytes_from.result.now c.bytes_from.ensures (Some c.in_ok-text_before_zero.field-0.now) c.in_ok-text_before_zero.ensures
