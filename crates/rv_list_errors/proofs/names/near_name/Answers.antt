use Rattle.std.proofs.Common.{◌∙◌, ap, arith, refl}
use Rattle.std.proofs.lemmas.List.{length-map}
use Rattle.rv_list_errors.specs.FaultHeads.{borrowed_name}
use Rattle.rv_list_errors.proofs.NamesTold.{borrowed_at}
use Rattle.rv_list_errors.proofs.NearestNames.{near_or_none, nearer, no_nearer, none_near, none_so_far, unless_refused, unless_refused_first, unless_refused_still}
use Rattle.rv_list_errors.proofs.names.near_name.Goals as goal
use Rattle.rv_list_errors.proofs.names.near_name.Goals.{then-distance-least, else-distance-least}

pub loop-name-init : goal.loop-name-init
loop-name-init c = record {
  near = unless_refused_first _ _ (none_so_far _ _);
  unchanged = refl;
}

pub loop-name-preserved : goal.loop-name-preserved
loop-name-preserved c = record {
  near = elim c.if-distance-least.branch [
    | then-distance-least w ↦
        rw (w.nearest-is, w.least-is) (unless_refused _ _ _ _ _ _ c.loop-name.invariant.near c.name_distance-distance.ensures.distance
        (λ so is. nearer _ _ _ _ _ so _ _ (borrowed_at c.args.names.now c.loop-name.name-index) is w.if-distance-least.true))
    | else-distance-least w ↦
        rw (w.nearest-is, w.least-is) (unless_refused _ _ _ _ _ _ c.loop-name.invariant.near c.name_distance-distance.ensures.distance
        (λ so is. no_nearer _ _ _ _ _ so _ _ (borrowed_at c.args.names.now c.loop-name.name-index) is
        w.if-distance-least.false))
  ];
  unchanged = c.name_distance-distance.ensures.unchanged ∙ c.loop-name.invariant.unchanged;
}

pub returns-in-Some-clause-near : goal.returns-in-Some-clause-near
returns-in-Some-clause-near c =
    unless_refused_still _ _ _ _ c.loop-name.invariant.near
    (λ so. near_or_none _ _ _ _ _ so c.in-Some.name.now c.name_if_near.result (ap borrowed_name c.in-Some.is)
    (omega (arith, length-map c.args.names.now borrowed_name)) c.name_if_near.ensures)

pub returns-in-None-clause-near : goal.returns-in-None-clause-near
returns-in-None-clause-near c =
    unless_refused_still _ _ _ _ c.loop-name.invariant.near
    (λ so. none_near _ _ _ _ _ so (omega (arith, length-map c.args.names.now borrowed_name))
    (λ name is. let none = rw c.in-None.is at is in cc))
