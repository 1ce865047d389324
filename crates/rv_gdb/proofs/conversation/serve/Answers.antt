use Rattle.std.proofs.Common.{◌≡◌, ◌≢◌, ◌∙◌, [], refl, rules, sym}
use Rattle.rv_session.proofs.Public.{same_run, same_run_on}
use Rattle.rv_gdb.proofs.Joining.{first_read, heard_all, heard_more, heard_over, silent}
use Rattle.rv_gdb.proofs.conversation.serve.Goals as goal

pub returns-then-is_over-clause-served : goal.returns-then-is_over-clause-served
returns-then-is_over-clause-served g c =
    silent (g.E.EndText.end_text c.args.context.now.end.now) c.args.session.now (g.I.Read.remaining c.args.input.now)
    (g.O.Sink.accepted c.args.out.now) c.requires.requested

pub loop-init : goal.loop-init
loop-init g c = (
  first_read (g.E.EndText.end_text c.args.context.now.end.now) c.args.session.now c.in_ok-chunk.chunk.items _ _ _ c.requires.requested
      (sym c.is_over.ensures ∙ c.if-is_over.false) c.in_ok-chunk.ensures.read,
  (same_run c.args.session.now, refl),
)

pub returns-then-is_empty-clause-served : goal.returns-then-is_empty-clause-served
returns-then-is_empty-clause-served g c =
    let none : c.loop.chunk.items ≡ [] = search rules in
    (heard_all (g.E.EndText.end_text c.args.context.now.end.now) c.args.session.now c.loop.session c.loop.chunk.items _ _ _ _ none
    c.loop.invariant.0).0

pub returns-in-None-clause-served : goal.returns-in-None-clause-served
returns-in-None-clause-served g c =
    let some : c.loop.chunk.items ≢ [] = search rules in
    (heard_over (g.E.EndText.end_text c.args.context.now.end.now) c.args.session.now c.loop.session c.respond_to_chunk.new.session
    c.loop.chunk.items _ _ _ _ _ _ some c.loop.invariant.0
    (rw (c.as_slice.ensures.value, c.in-None.is) at c.in_ok-next.ensures.handled)).0

pub loop-preserved : goal.loop-preserved
loop-preserved g c =
    let some : c.loop.chunk.items ≢ [] = search rules in (
      heard_more (g.E.EndText.end_text c.args.context.now.end.now) c.args.session.now c.loop.session c.respond_to_chunk.new.session
          c.loop.chunk.items c.in-Some.next.items _ _ _ _ _ _ some c.loop.invariant.0
          (rw (c.as_slice.ensures.value, c.in-Some.is) at c.in_ok-next.ensures.handled),
      (
        same_run_on c.args.session.now c.loop.session c.respond_to_chunk.new.session c.loop.invariant.1.0 c.in_ok-next.ensures.same_run,
        c.in_ok-next.ensures.no_failed_writes ∙ c.loop.invariant.1.1,
      ),
    )
