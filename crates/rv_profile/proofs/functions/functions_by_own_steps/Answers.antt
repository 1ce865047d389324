-- Each call of the closure answers the key of its function.
use Rattle.std.proofs.Common.{◌≡◌, rules}
use Rattle.std.proofs.lemmas.Bool.{and_parts, ltb-true}
use Rattle.std.proofs.lemmas.Fn.{always_returns_same}
use Rattle.rv_profile.proofs.Order.{by_own_steps, key_of}
use Rattle.rv_profile.proofs.functions.functions_by_own_steps.Goals as goal

pub returns : goal.returns
returns c =
    let keys = always_returns_same _ (λ a r. r ≡ key_of a.0.now) _ (λ a r f' k. search rules) in
    by_own_steps c.args.stacks.nodes.now c.args.stacks.names.now _ _ (ltb-true _ _ (and_parts _ _ c.requires.fits).0) c.args.stacks.rising
    c.in_ok-functions.ensures c.in_ok-sort_by_key.ensures.permutation
    (c.in_ok-sort_by_key.ensures.sorted key_of keys) (c.in_ok-sort_by_key.ensures.stable key_of keys)
