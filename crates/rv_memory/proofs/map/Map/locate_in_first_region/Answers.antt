use Rattle.std.proofs.Common.{◌≡◌, ◌-◌, subst, drop, take, get_or, true}
use Rattle.std.specs.List.{list_all}
use Rattle.std.proofs.lemmas.Bool.{and_parts}
use Rattle.rv_memory.specs.Maps.{is_aligned, has_valid_size}
use Rattle.rv_memory.specs.Bus.{size_of}
use Rattle.rv_memory.specs.Inside.Map.{regions_of, empty_slot}
use Rattle.rv_memory.proofs.Accepted.{accepted, first_and_rest}
use Rattle.rv_memory.proofs.Accesses.{size_positive}
use Rattle.rv_memory.proofs.Places.{locate_in_first_region}
use Rattle.rv_memory.proofs.map.Map.locate_in_first_region.Goals as goal

pub offset_of_aligned-requires-clause-aligned : goal.offset_of_aligned-requires-clause-aligned
offset_of_aligned-requires-clause-aligned c =
    let m = c.self.inside in
    (and_parts (is_aligned (get_or m.regions 0 empty_slot)) _
    (subst (λ rs. list_all is_aligned rs ≡ true) (first_and_rest m c.self.invariant)
    ((accepted (regions_of m) c.self.invariant.accepted).aligned))).0

pub offset_of_aligned-requires-clause-valid_size : goal.offset_of_aligned-requires-clause-valid_size
offset_of_aligned-requires-clause-valid_size c =
    let m = c.self.inside in
    (and_parts (has_valid_size (get_or m.regions 0 empty_slot)) _
    (subst (λ rs. list_all has_valid_size rs ≡ true) (first_and_rest m c.self.invariant)
    ((accepted (regions_of m) c.self.invariant.accepted).sized))).0

pub returns : goal.returns
returns c =
    let m = c.self.inside in
    rw (← c.self.view_is) (locate_in_first_region (regions_of m) (get_or m.regions 0 empty_slot)
    (take (m.count - 1) (drop 1 m.regions)) (first_and_rest m c.self.invariant) c.args.addr (size_of c.args.width)
    (size_positive c.args.width) ((accepted (regions_of m) c.self.invariant.accepted).apart) c.in_ok-offset.offset
    c.in_ok-offset.ensures.0 c.in_ok-offset.ensures.1)
