use Rattle.std.proofs.Common.{◌≡◌, ◌∙◌, ◌<◌, ◌≤◌, arith, sym}
use Rattle.rv_engine.proofs.Hearing.{all_pieces, heard_as}
use Rattle.rv_engine.specs.Results.{chunk_count}
use Rattle.rv_engine.proofs.engine.deliver_from.Goals as goal

pub returns : goal.returns
returns g c =
    let jobs = c.jobs.ensures.value ∙ sym c.requires.jobs in
    let same : c.chunk_count-piece-end.result ≡ chunk_count g.J.RunSpec.jobs g.J.RunSpec.group =
    c.chunk_count-piece-end.ensures.value ∙ (λ i. chunk_count (jobs i) (sym c.requires.group i)) in
    let some : 0 < g.J.RunSpec.group = omega (arith, c.requires.group, c.args.crew.now.group_in_range.0) in
    let past : chunk_count g.J.RunSpec.jobs g.J.RunSpec.group ≤ c.loop-piece.piece = omega (arith, same) in (
      heard_as g.J.RunSpec.is_result g.J.RunSpec.jobs (g.L.Listener.has_received c.loop-piece.listener) _ _
          (all_pieces g.J.RunSpec.jobs g.J.RunSpec.group c.loop-piece.piece some past) c.loop-piece.invariant.received.0,
      c.loop-piece.invariant.received.1,
    )
