use Rattle.std.proofs.Common.{◌≡◌, ◌∙◌, ◌<◌, ℕ, List, length, refl, rules, subst, sym}
use Rattle.std.specs.Prelude.{Option}
use Rattle.rv_session.proofs.Public.{same_run, same_run_on}
use Rattle.rv_gdb.specs.Serving.{IsChunkRead}
use Rattle.rv_gdb.proofs.Joining.{asked_going, chunk_moved, chunk_over, chunk_read, heard_byte, heard_byte_on, heard_none}
use Rattle.rv_gdb.proofs.conversation.respond_to_chunk.Goals as goal

pub loop-index-init : goal.loop-index-init
loop-index-init g c = (
  heard_none (g.E.EndText.end_text c.args.context.now.end.now) c.args.session.now c.args.chunk.now (g.O.Sink.accepted c.args.out.now)
      c.requires.requested,
  (same_run c.args.session.now, (refl, refl)),
)

pub returns-then-branch-clause-handled : goal.returns-then-branch-clause-handled
returns-then-branch-clause-handled g c =
    let end_text = g.E.EndText.end_text c.args.context.now.end.now in
    let within : c.loop-index.index < length c.args.chunk.now = search rules in
    let is_move_pending = rw c.if-branch.true at c.in_ok-respond_to_byte.ensures.handled in
    chunk_moved end_text c.args.session.now c.respond_to_byte.new.session c.move_while_reading.new.session c.args.chunk.now
    c.in_ok-move_while_reading.field-0.items c.loop-index.index _ _ _ _ _ is_move_pending.0
    (heard_byte end_text c.args.session.now c.loop-index.session c.respond_to_byte.new.session c.args.chunk.now c.loop-index.index 0 _ _ _
    within c.loop-index.invariant.0 is_move_pending.1.0)
    (asked_going c.respond_to_byte.new.session c.in_ok-respond_to_byte.ensures.not_over is_move_pending.1.1)
    c.in_ok-move_while_reading.ensures.moved
    (subst (λ (before : Option (List ℕ)). IsChunkRead before (g.I.Read.remaining c.move_while_reading.new.input)
    c.in_ok-move_while_reading.field-0.items) c.loop-index.invariant.1.1.0 c.in_ok-move_while_reading.ensures.read)

pub loop-index-preserved : goal.loop-index-preserved
loop-index-preserved g c =
    let end_text = g.E.EndText.end_text c.args.context.now.end.now in
    let within : c.loop-index.index < length c.args.chunk.now = search rules in (
      heard_byte_on end_text c.args.session.now c.loop-index.session c.respond_to_byte.new.session c.args.chunk.now c.loop-index.index _ _ _
          within c.loop-index.invariant.0 (rw c.if-branch.false at c.in_ok-respond_to_byte.ensures.handled),
      (
        same_run_on c.args.session.now c.loop-index.session c.respond_to_byte.new.session c.loop-index.invariant.1.0
            c.in_ok-respond_to_byte.ensures.same_run,
        (c.loop-index.invariant.1.1.0, c.in_ok-respond_to_byte.ensures.no_failed_writes ∙ c.loop-index.invariant.1.1.1),
      ),
    )

pub returns-then-is_over-clause-handled : goal.returns-then-is_over-clause-handled
returns-then-is_over-clause-handled g c =
    let is : c.loop-index.index ≡ length c.args.chunk.now = search rules in
    chunk_over (g.E.EndText.end_text c.args.context.now.end.now) c.args.session.now c.loop-index.session c.args.chunk.now c.loop-index.index
    _ _ _ _ is c.loop-index.invariant.0 c.loop-index.invariant.1.1.0 (sym c.is_over.ensures ∙ c.if-is_over.true)

pub returns-clause-handled : goal.returns-clause-handled
returns-clause-handled g c =
    let is : c.loop-index.index ≡ length c.args.chunk.now = search rules in
    chunk_read (g.E.EndText.end_text c.args.context.now.end.now) c.args.session.now c.loop-index.session c.args.chunk.now
    c.in_ok-read_chunk.field-0.items c.loop-index.index _ _ _ _ is c.loop-index.invariant.0 (sym c.is_over.ensures ∙ c.if-is_over.false)
    (subst (λ (before : Option (List ℕ)). IsChunkRead before (g.I.Read.remaining c.read_chunk.new.input)
    c.in_ok-read_chunk.field-0.items) c.loop-index.invariant.1.1.0 c.in_ok-read_chunk.ensures.read)
