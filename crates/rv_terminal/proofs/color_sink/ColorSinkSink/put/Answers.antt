use Rattle.std.proofs.Common.{◌≤◌, [], arith, take}
use Rattle.rv_terminal.specs.ColorSinks.{results_of}
use Rattle.rv_terminal.proofs.Counting.{counted_none, counted_some}
use Rattle.rv_terminal.proofs.Courses.{course_kept, nothing_taken, results_taken}
use Rattle.rv_terminal.proofs.color_sink.ColorSinkSink.put.Goals as goal

pub invariant_of-self : goal.invariant_of-self
invariant_of-self g c = (
  course_kept g.J.ColorSpec.colors g.J.ColorSpec.before (g.S.Sink.accepted c.self.inside.sink)
      (g.S.Sink.accepted c.write_in_state-count.new.sink) c.self.inside.state c.write_in_state-count.result.1
      (take c.write_in_state-count.result.0 c.args.bytes.now) c.self.invariant.0 c.write_in_state-count.ensures.written,
  rw (c.write_in_state-count.ensures.failure_count, c.saturating_add-self-inside.ensures, c.if-count-eq0.true)
      (counted_none c.self.inside.state c.write_in_state-count.result.1
      (take c.write_in_state-count.result.0 c.args.bytes.now) (g.S.Sink.accepted c.self.inside.sink)
      (g.S.Sink.accepted c.write_in_state-count.new.sink) c.self.inside.failures
      (g.S.Sink.failure_count c.self.inside.sink) c.write_in_state-count.ensures.written c.self.invariant.1),
)

pub invariant_of-self-else-count-eq0 : goal.invariant_of-self-else-count-eq0
invariant_of-self-else-count-eq0 g c =
    let some : 1 ≤ c.write_in_state-count.result.0 = omega (arith, c.if-count-eq0.false) in (
      course_kept g.J.ColorSpec.colors g.J.ColorSpec.before (g.S.Sink.accepted c.self.inside.sink)
          (g.S.Sink.accepted c.write_in_state-count.new.sink) c.self.inside.state c.write_in_state-count.result.1
          (take c.write_in_state-count.result.0 c.args.bytes.now) c.self.invariant.0 c.write_in_state-count.ensures.written,
      rw c.write_in_state-count.ensures.failure_count
          (counted_some c.self.inside.state c.write_in_state-count.result.1
          (take c.write_in_state-count.result.0 c.args.bytes.now) (g.S.Sink.accepted c.self.inside.sink)
          (g.S.Sink.accepted c.write_in_state-count.new.sink) c.write_in_state-count.result.0
          c.self.inside.failures (g.S.Sink.failure_count c.self.inside.sink) some c.write_in_state-count.ensures.written c.self.invariant.1),
    )

pub returns-then-count-eq0-clause-kept : goal.returns-then-count-eq0-clause-kept
returns-then-count-eq0-clause-kept g c =
    let old = g.S.Sink.accepted c.self.inside.sink in
    let new = g.S.Sink.accepted c.write_in_state-count.new.sink in
    let state = c.write_in_state-count.result.1 in
    rw (← c.self.view_is)
    (nothing_taken (results_of g.J.ColorSpec.colors g.J.ColorSpec.before old)
    (results_of g.J.ColorSpec.colors g.J.ColorSpec.before new)
    (results_taken g.J.ColorSpec.colors g.J.ColorSpec.before old new c.self.inside.state state [] c.self.invariant.0
    (rw c.if-count-eq0.true at c.write_in_state-count.ensures.written)))

pub returns-clause-taken : goal.returns-clause-taken
returns-clause-taken g c =
    rw (← c.self.view_is)
    (results_taken g.J.ColorSpec.colors g.J.ColorSpec.before (g.S.Sink.accepted c.self.inside.sink)
    (g.S.Sink.accepted c.write_in_state-count.new.sink) c.self.inside.state c.write_in_state-count.result.1
    (take c.write_in_state-count.result.0 c.args.bytes.now) c.self.invariant.0 c.write_in_state-count.ensures.written)
