use Rattle.std.proofs.Common.{◌≡◌, ◌∙◌, List, get_or, subst, sym}
use Rattle.rv_history.specs.declared.machine_at.MachineAt.{MachineAt}
use Rattle.rv_history.specs.StoredStates.{AreDecreasing, IsLastUpTo}
use Rattle.rv_history.proofs.CurrentVerdict.{last_is_first}
use Rattle.rv_history.proofs.checkpoint_list.CheckpointList.last_up_to.Goals as goal

pub returns-then-at-step-clause-last : goal.returns-then-at-step-clause-last
returns-then-at-step-clause-last c =
    let items : List MachineAt = c.deref-at-items.result.now in
    let here : MachineAt = c.at-item.result in
    let falling = subst AreDecreasing (sym c.deref-at-items.ensures.value) c.self.invariant.1.1 in
    let last = last_is_first items c.loop-at.at-index c.args.step here falling c.loop-at-test.true c.loop-at.invariant in
    let all : items ≡ c.args.self.now = c.deref-at-items.ensures.value ∙ c.self.view_is in
    subst (λ (at : MachineAt). IsLastUpTo c.args.self.now c.args.step at.step) (sym c.at-item.is)
    (subst (λ (list : List MachineAt). IsLastUpTo list c.args.step (get_or items c.loop-at.at-index here).step) all last)
