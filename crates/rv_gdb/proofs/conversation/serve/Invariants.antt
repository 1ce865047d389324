use Rattle.std.proofs.Common.{◌≡◌}
use Rattle.rv_session.specs.Sessions.{IsSameRun}
use Rattle.rv_gdb.proofs.Joining.{IsHeardUpTo}
use Rattle.rv_gdb.proofs.conversation.serve.Given as goal

abbrev pub invariant-loop : goal.invariant-loop
invariant-loop g l =
    IsHeardUpTo (g.E.EndText.end_text l.context.end.now) l.fn.session (g.I.Read.remaining l.fn.input)
    (g.I.Read.remaining l.input) (g.O.Sink.accepted l.fn.out) (g.O.Sink.accepted l.out) l.chunk.items l.session
    × (IsSameRun l.fn.session l.session × (g.O.Sink.failure_count l.out ≡ g.O.Sink.failure_count l.fn.out))
