use Rattle.std.proofs.Common.{refl}
use Rattle.std.proofs.lemmas.Result.{IfOk-weaker}
use Rattle.rv_files.proofs.system_outputs.SystemOutputsOutputs.TheImpl.Goals as goal

pub create-tells : goal.create-tells
create-tells g _ _ _ c = record {
  same = refl;
  path = c.ensures.path;
  empty = IfOk-weaker c.result _ _ (λ _ _. tt) c.ensures.path;
  told = IfOk-weaker c.result _ _ (λ _ _. tt) c.ensures.path;
  no_failures = c.ensures.no_failures;
}
