use Rattle.std.proofs.Common.{◌∙◌}
use Rattle.rv_elf.proofs.Public.{entry_aligned, entry_even}
use Rattle.rv_rows.proofs.Loadables.{aligned, loaded_is, new_bus_parts}
use Rattle.rv_rows.proofs.job_run.loaded_machine.Goals as goal

pub load-requires-clause-image : goal.load-requires-clause-image
load-requires-clause-image c =
    record { isa = c.args.job.now.isa; is = c.requires.image }

pub load-requires-clause-fits : goal.load-requires-clause-fits
load-requires-clause-fits c =
    rw (new_bus_parts _ _ _ _ c.in_ok-bus.ensures).0 c.requires.fits

pub load-requires-clause-new_bus : goal.load-requires-clause-new_bus
load-requires-clause-new_bus c = (new_bus_parts _ _ _ _ c.in_ok-bus.ensures).1

pub new-requires-clause-even : goal.new-requires-clause-even
new-requires-clause-even c = entry_even _ _ _ c.requires.image

pub new-requires-clause-aligned : goal.new-requires-clause-aligned
new-requires-clause-aligned c = aligned _ _ (entry_aligned _ _ _ c.requires.image)

pub returns : goal.returns
returns c =
    rw (loaded_is c.in_ok-bus.bus _ c.args.job.now c.args.file.now c.args.image.now _ c.in_ok-bus.ensures
    (c.in_ok-script.ensures ∙ c.as_slice.ensures) c.load.ensures) at c.new.ensures
