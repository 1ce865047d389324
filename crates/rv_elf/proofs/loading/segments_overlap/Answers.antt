use Rattle.rv_elf.proofs.loading.segments_overlap.Goals as goal

pub returns : goal.returns
returns c = cc
