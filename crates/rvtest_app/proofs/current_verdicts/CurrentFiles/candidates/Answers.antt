use Rattle.std.proofs.Common.{◌∙◌, arith}
use Rattle.rv_command.specs.Texts.{optional_text}
use Rattle.rvtest_app.proofs.CurrentVerdicts.{all_stand, none_stand, one_more_stands}
use Rattle.rvtest_app.proofs.current_verdicts.CurrentFiles.candidates.Goals as goal

pub loop-job-init : goal.loop-job-init
loop-job-init g c = rw c.new-candidates.ensures.items
    (none_stand (g.D.Inputs.contents c.args.self.now.inputs.now) (optional_text c.args.self.now.root)
    c.args.self.now.rows.now c.args.jobs.now c.args.chosen.now)

pub loop-job-preserved : goal.loop-job-preserved
loop-job-preserved g c =
    one_more_stands (g.D.Inputs.contents c.args.self.now.inputs.now) (optional_text c.args.self.now.root)
    c.args.self.now.rows.now c.args.jobs.now c.args.chosen.now c.loop-job.job-index c.len-index.result
    c.loop-job.candidates.items c.push_candidate.new.candidates.items c.job-item.result c.in_ok-candidate.candidate
    c.loop-job.invariant c.loop-job-test.true c.job-item.is (c.len-index.ensures ∙ c.loop-job.candidates.ok.0)
    c.in_ok-candidate.ensures
    c.in_ok-push_candidate.ensures

pub returns : goal.returns
returns g c =
    let over = c.loop-job-test.false in
    all_stand (g.D.Inputs.contents c.args.self.now.inputs.now) (optional_text c.args.self.now.root)
    c.args.self.now.rows.now c.args.jobs.now c.args.chosen.now c.loop-job.job-index c.loop-job.candidates.items
    c.loop-job.invariant (omega (arith, over))
