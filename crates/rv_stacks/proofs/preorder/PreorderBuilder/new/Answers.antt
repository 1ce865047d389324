use Rattle.std.proofs.Common.{◌∙◌, ◌∷◌, ◌++◌, [], ℕ, List, ap}
use Rattle.rv_stacks.proofs.Flattened.{no_spot}
use Rattle.rv_stacks.proofs.preorder.PreorderBuilder.new.Goals as goal

pub returns : goal.returns
returns c = λ nodes. (
  no_spot nodes _ c.new.ensures.items
      (c.in_ok-push.ensures.items ∙ ap (λ (xs : List ℕ). xs ++ 0 ∷ []) c.new-trail.ensures.items) c.new-2.ensures.items,
  c.new-2.ensures.items,
)
