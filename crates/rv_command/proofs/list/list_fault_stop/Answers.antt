use Rattle.std.proofs.Common.{inl, refl}
use Rattle.rv_command.proofs.Told.{fault_stop}
use Rattle.rv_command.proofs.list.list_fault_stop.Goals as goal

pub returns-in-OutOfMemory : goal.returns-in-OutOfMemory
returns-in-OutOfMemory c = inl refl

pub returns-in_default : goal.returns-in_default
returns-in_default c = fault_stop c.args.path.now c.args.text.now c.args.error _ _ c.rejection.ensures (c.requires c.in_default.not-OutOfMemory) c.list_faults_text.ensures.heads
