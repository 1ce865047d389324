use Rattle.rv_terminal.proofs.Counting.{counted_first}
use Rattle.rv_terminal.proofs.Courses.{course_begun, results_begun}
use Rattle.rv_terminal.proofs.color_sink.ColorSink.new.Goals as goal

pub invariant_of-result : goal.invariant_of-result
invariant_of-result g c = (
  rw (c.first.ensures, c.requires.colors, c.requires.before) (course_begun g.J.ColorSpec.colors g.J.ColorSpec.before),
  rw (c.first.ensures, c.failures-failures.ensures) (counted_first c.args.colors (g.S.Sink.failure_count c.args.sink)),
)

pub returns-clause-nothing_written : goal.returns-clause-nothing_written
returns-clause-nothing_written g c = rw c.requires.before (results_begun g.J.ColorSpec.colors g.J.ColorSpec.before)
