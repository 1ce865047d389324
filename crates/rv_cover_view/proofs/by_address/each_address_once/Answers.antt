-- Each call of either closure answers an address.
use Rattle.std.proofs.Common.{◌≡◌, rules}
use Rattle.std.proofs.lemmas.Fn.{always_returns_same, dedup_same}
use Rattle.rv_cover_view.proofs.Bounds.{fewer_bytes}
use Rattle.rv_cover_view.proofs.Once.{each_once, is_same, starts}
use Rattle.rv_cover_view.proofs.by_address.each_address_once.Goals as goal

pub returns : goal.returns
returns c =
    let keys = always_returns_same _ (λ a r. r ≡ starts a.0.now) _ (λ a r f' k. search rules) in
    let kept = dedup_same _ (is_same starts) _ (λ x y b f' x' y' k. search rules) _ _ c.dedup_by_key.ensures.filtered in record {
      each_once = each_once c.args.functions.items _ _ (c.in_ok-sort_by_key.ensures.sorted starts keys)
          (c.in_ok-sort_by_key.ensures.stable starts keys) kept;
      fewer = fewer_bytes c.args.functions.items _ _ c.in_ok-sort_by_key.ensures.permutation kept;
    }
