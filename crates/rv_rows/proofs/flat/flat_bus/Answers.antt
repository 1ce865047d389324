use Rattle.std.proofs.Common.{◌≡◌, ◌∙◌, [], ap}
use Rattle.rv_machine.specs.declared_access.Misaligned.TheVariants.{Fault}
use Rattle.rv_machine.specs.Bus.{byte_at, new_bus, with_bytes}
use Rattle.rv_jobs.specs.Jobs.{default_regions}
use Rattle.rv_rows.proofs.FlatImages.{flat_memory, image_fits}
use Rattle.rv_rows.proofs.flat.flat_bus.Goals as goal

pub place-requires : goal.place-requires
place-requires c = image_fits _ _ (rw (c.default_map.ensures, c.new.ensures.items) at c.in_ok-bus.ensures) c.requires

pub returns-clause-contents : goal.returns-clause-contents
returns-clause-contents c =
    let new : c.in_ok-bus.bus ≡ new_bus default_regions [] Fault =
    rw (c.default_map.ensures, c.new.ensures.items) at c.in_ok-bus.ensures in
    c.place.ensures ∙ ap (λ bus. with_bytes bus 0x8000_0000 c.args.bytes.now) new

pub returns-clause-memory : goal.returns-clause-memory
returns-clause-memory c =
    let new : c.in_ok-bus.bus ≡ new_bus default_regions [] Fault =
    rw (c.default_map.ensures, c.new.ensures.items) at c.in_ok-bus.ensures in
    λ address. ap (λ bus. byte_at bus.memory address)
    (c.place.ensures ∙ ap (λ bus. with_bytes bus 0x8000_0000 c.args.bytes.now) new)
    ∙ flat_memory c.args.bytes.now address
