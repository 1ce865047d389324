use Rattle.std.proofs.Common.{◌∙◌, sym}
use Rattle.rv_terminal.proofs.Courses.{out_in_part, out_whole}
use Rattle.rv_terminal.proofs.color_sink.ColorSink.finish.Goals as goal
use Rattle.rv_terminal.proofs.color_sink.ColorSink.finish.Goals.{then-has_failed, else-has_failed}

pub returns-clause-colored : goal.returns-clause-colored
returns-clause-colored g c = elim c.if-has_failed.branch [
  | then-has_failed w ↦ rw w.whole-is tt
  | else-has_failed w ↦
      rw (w.whole-is, ← c.self.view_is)
      (out_whole g.J.ColorSpec.colors g.J.ColorSpec.before (g.S.Sink.accepted c.self.inside.sink) c.self.inside.state
      c.self.invariant.0 (sym c.has_failed.ensures ∙ w.if-has_failed.false))
]

pub returns-clause-partly_colored : goal.returns-clause-partly_colored
returns-clause-partly_colored g c =
    rw (← c.self.view_is)
    (out_in_part g.J.ColorSpec.colors g.J.ColorSpec.before (g.S.Sink.accepted c.self.inside.sink) c.self.inside.state
    c.self.invariant.0)
