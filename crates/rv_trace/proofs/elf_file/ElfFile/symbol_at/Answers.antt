use Rattle.rv_trace.proofs.elf_file.ElfFile.symbol_at.Goals as goal

pub symbol_at-requires : goal.symbol_at-requires
symbol_at-requires c = record { image = record { isa = c.args.self.now.isa; is = c.args.self.now.read } }
