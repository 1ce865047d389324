use Rattle.std.proofs.Common.{Result, Ok, Err, IfErr}
use Rattle.std.proofs.lemmas.Result.{IfOk-weaker}
use Rattle.rv_files.proofs.inputs.SystemInputsInputs.TheImpl.Goals as goal

at_each_error : {T E : Type 0} (r : Result T E) (P : E → Type 0) → ((error : E) → P error) → IfErr r P
at_each_error (Ok x) P holds = tt
at_each_error (Err error) P holds = holds error

pub read_up_to-tells : goal.read_up_to-tells
read_up_to-tells g c = record {
  within = c.ensures.within;
  known = IfOk-weaker c.result _ _ (λ _ _. tt) c.ensures.within;
  missing = at_each_error c.result _ (λ _ _. tt);
}
