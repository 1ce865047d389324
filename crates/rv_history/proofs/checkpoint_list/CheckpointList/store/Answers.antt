use Rattle.std.proofs.Common.{is_ok, ltb, rules}
use Rattle.std.proofs.lemmas.List.Elements.{All-same, All-take}
use Rattle.rv_history.specs.declared.machine_at.MachineAt.{MachineAt}
use Rattle.rv_history.specs.StoredStates.{IsAt}
use Rattle.rv_history.proofs.CurrentVerdict.{all_filtered, all_inserted, before_place, falling_some, kept_falling}
use Rattle.rv_history.proofs.checkpoint_list.CheckpointList.store.Goals as goal

pub returns-in_err-insert : goal.returns-in_err-insert
returns-in_err-insert c = λ start all is.
    let P = IsAt start in
    let kept = all_filtered _ (λ (other : MachineAt). ltb other.step c.args.at.step) _ (λ x b f k. search rules) P _ _
    c.retain.ensures.filtered (All-same P _ _ c.self.view_is all) in
    let few = All-same P _ _ c.truncate.ensures.items (All-take P _ _ kept) in
    All-same P _ _ c.insert.ensures.items (all_inserted P (is_ok c.insert.result) c.args.at _ few is)

pub returns : goal.returns
returns c = λ start all is.
    let P = IsAt start in
    let kept = all_filtered _ (λ (other : MachineAt). ltb other.step c.args.at.step) _ (λ x b f k. search rules) P _ _
    c.retain.ensures.filtered (All-same P _ _ c.self.view_is all) in
    let few = All-same P _ _ c.truncate.ensures.items (All-take P _ _ kept) in
    All-same P _ _ c.insert.ensures.items (all_inserted P (is_ok c.insert.result) c.args.at _ few is)

pub invariant_of-self : goal.invariant_of-self
invariant_of-self c = (
  c.self.invariant.0,
  kept_falling c.self.inside.capacity c.args.at (is_ok c.insert.result) c.retain.new.self.items c.truncate.new.self.items
      c.insert.new.self.items c.self.invariant.0 c.truncate.ensures.items c.insert.ensures.items
      (falling_some _ (λ (other : MachineAt). ltb other.step c.args.at.step) _ (λ x b f k. search rules) _ _
      c.retain.ensures.filtered c.self.invariant.1.1)
      (before_place _ _ c.args.at.step (λ x b f k. search rules) _ _ c.retain.ensures.filtered),
)

pub invariant_of-self-2 : goal.invariant_of-self-2
invariant_of-self-2 c = (
  c.self.invariant.0,
  kept_falling c.self.inside.capacity c.args.at (is_ok c.insert.result) c.retain.new.self.items c.truncate.new.self.items
      c.insert.new.self.items c.self.invariant.0 c.truncate.ensures.items c.insert.ensures.items
      (falling_some _ (λ (other : MachineAt). ltb other.step c.args.at.step) _ (λ x b f k. search rules) _ _
      c.retain.ensures.filtered c.self.invariant.1.1)
      (before_place _ _ c.args.at.step (λ x b f k. search rules) _ _ c.retain.ensures.filtered),
)
