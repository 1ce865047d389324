use Rattle.rv_elf.proofs.loading.LoadAt.load_address.Goals as goal

pub returns-in-Physical : goal.returns-in-Physical
returns-in-Physical c = rw c.in-Physical.is
