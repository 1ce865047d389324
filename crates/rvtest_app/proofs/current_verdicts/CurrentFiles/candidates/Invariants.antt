use Rattle.rv_command.specs.Texts.{optional_text}
use Rattle.rvtest_app.proofs.CurrentVerdicts.{StandSoFar}
use Rattle.rvtest_app.proofs.current_verdicts.CurrentFiles.candidates.Given as goal

abbrev pub invariant-loop-job : goal.invariant-loop-job
invariant-loop-job g l = StandSoFar (g.D.Inputs.contents l.fn.self.inputs.now) (optional_text l.fn.self.root)
    l.fn.self.rows.now l.jobs l.chosen l.job-index l.candidates.items
