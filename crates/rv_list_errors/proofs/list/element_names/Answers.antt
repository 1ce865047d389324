use Rattle.std.proofs.Common.{refl}
use Rattle.rv_list_errors.specs.FaultHeads.{element_names}
use Rattle.rv_list_errors.proofs.ElementNames.{names_step}
use Rattle.rv_list_errors.proofs.list.element_names.Goals as goal

pub loop-job-init : goal.loop-job-init
unfolding element_names
loop-job-init c = rw c.new-names.ensures.items refl

pub loop-job-preserved : goal.loop-job-preserved
loop-job-preserved c =
    names_step c.loop-job.names.items c.push.new.self.items c.args.jobs.now c.loop-job.job-index c.job-item.result
    c.element_name.result c.loop-job-test.true c.job-item.is c.loop-job.invariant c.in_ok-push.ensures.items
    c.element_name.ensures
