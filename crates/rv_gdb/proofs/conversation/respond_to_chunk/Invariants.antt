use Rattle.std.proofs.Common.{◌≡◌}
use Rattle.rv_session.specs.Sessions.{IsSameRun}
use Rattle.rv_gdb.proofs.Joining.{IsHeardIn}
use Rattle.rv_gdb.proofs.conversation.respond_to_chunk.Given as goal

abbrev pub invariant-loop-index : goal.invariant-loop-index
invariant-loop-index g l =
    IsHeardIn (g.E.EndText.end_text l.context.end.now) l.initial.session l.chunk l.index (g.O.Sink.accepted l.initial.out)
    (g.O.Sink.accepted l.out) l.session
    × (IsSameRun l.initial.session l.session
    × ((g.I.Read.remaining l.input ≡ g.I.Read.remaining l.initial.input)
    × (g.O.Sink.failure_count l.out ≡ g.O.Sink.failure_count l.initial.out)))
