use Rattle.std.proofs.Common.{◌∙◌, ap, length, sym}
use Rattle.std.specs.List.{list_all}
use Rattle.rv_elf.specs.Functions.{is_in_file}
use Rattle.rv_elf.proofs.Coding.{functions_there, no_functions}
use Rattle.rv_elf.proofs.Naming.{header_there}
use Rattle.rv_elf.proofs.Reading.{segments_in_file}
use Rattle.rv_elf.proofs.function.functions.Goals as goal

pub symbol_and_string_bytes-requires : goal.symbol_and_string_bytes-requires
symbol_and_string_bytes-requires c = header_there c.args.file.now c.args.image.now c.requires.image

pub returns-in_default : goal.returns-in_default
returns-in_default c = rw c.new.ensures.items
    (sym (no_functions c.args.image.now c.args.file.now _ c.in_default.ensures.check))

pub functions_in-requires : goal.functions_in-requires
functions_in-requires c = ap (list_all (is_in_file (length c.args.file.now))) c.as_slice.ensures
    ∙ segments_in_file c.requires.image.isa c.args.file.now c.args.image.now c.requires.image.is

pub returns : goal.returns
returns c = rw (sym (functions_there c.args.image.now c.args.file.now c.in-Ok.table.now c.in-Ok.strings.now
    c.in-Ok.ensures.check c.in-Ok.ensures.bytes c.as_slice.result.now c.as_slice.ensures)) c.functions_in.ensures
