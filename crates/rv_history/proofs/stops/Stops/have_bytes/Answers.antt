use Rattle.std.proofs.Common.{◌∙◌, ◌++◌, ap, drop, sym}
use Rattle.std.specs.List.{flat_map}
use Rattle.std.proofs.lemmas.Bool.{false≢true}
use Rattle.rv_history.specs.Stops.{watch_bytes, watched_bytes}
use Rattle.rv_history.specs.declared.stops.Watch.{Watch}
use Rattle.rv_history.proofs.Watched.{not_seen}
use Rattle.rv_history.proofs.stops.Stops.have_bytes.Goals as goal

pub returns-in-None : goal.returns-in-None
unfolding watched_bytes
returns-in-None c =
    let bytes_of = watch_bytes c.args.bus.now in
    let watch = c.watch-item.result in (
      λ is. absurd (false≢true is),
      λ same. absurd (not_seen bytes_of c.as_slice-watch-items.result.now c.loop-watch.watch-index watch c.args.bytes.now
          (drop c.loop-watch.seen c.args.bytes.now) c.loop-watch-test.true c.loop-watch.invariant.so_far
          (λ behind is. c.in-None.ensures.bytes behind (is ∙ ap (λ (w : Watch). bytes_of w ++ behind) (sym c.watch-item.is)))
          (ap (flat_map bytes_of) c.as_slice-watch-items.ensures ∙ same)),
    )
