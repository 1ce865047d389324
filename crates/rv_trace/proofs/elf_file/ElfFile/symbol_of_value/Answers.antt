use Rattle.rv_trace.proofs.elf_file.ElfFile.symbol_of_value.Goals as goal

pub symbol_of_value-requires : goal.symbol_of_value-requires
symbol_of_value-requires c = record { image = record { isa = c.args.self.now.isa; is = c.args.self.now.read } }
