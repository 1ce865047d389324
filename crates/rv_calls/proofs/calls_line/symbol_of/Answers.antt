use Rattle.rv_calls.proofs.calls_line.symbol_of.Goals as goal

pub symbol_at-requires : goal.symbol_at-requires
symbol_at-requires c = record { image = record { isa = c.args.elf.now.isa; is = c.args.elf.now.read } }
