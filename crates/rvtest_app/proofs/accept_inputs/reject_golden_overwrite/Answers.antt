use Rattle.std.proofs.Common.{inl, inr}
use Rattle.std.proofs.lemmas.Result.{err_from_is_err_and}
use Rattle.std.specs.Path.{path_buf_bytes}
use Rattle.rvtest_app.specs.Overwrites.{output_role_text}
use Rattle.rvtest_app.proofs.StopLemmas.{IfErr-map}
use Rattle.rvtest_app.proofs.accept_inputs.reject_golden_overwrite.Goals as goal

pub returns-in_err-reject_if_found-clause-stopped : goal.returns-in_err-reject_if_found-clause-stopped
returns-in_err-reject_if_found-clause-stopped g c =
    let is = err_from_is_err_and c.from_residual.result c.from_residual.ensures.1 in
    rw (is.1, is.2) (inr (
      path_buf_bytes c.args.golden.now.path,
      inr (inl (output_role_text c.args.golden.now.role, inr c.in_err-reject_if_found.ensures.stopped)),
    ))

pub returns-in_err-reject_if_found-2-clause-stopped : goal.returns-in_err-reject_if_found-2-clause-stopped
returns-in_err-reject_if_found-2-clause-stopped g c =
    let is = err_from_is_err_and c.from_residual-in_err-reject_if_found-2.result c.from_residual-in_err-reject_if_found-2.ensures.1 in
    rw (is.1, is.2) (inr (
      path_buf_bytes c.args.golden.now.path,
      inr (inl (output_role_text c.args.golden.now.role, inr c.in_err-reject_if_found-2.ensures.stopped)),
    ))

pub returns-clause-stopped : goal.returns-clause-stopped
returns-clause-stopped g c =
    IfErr-map c.reject_if_found-3.result _ _ (λ stop told. inr (
      path_buf_bytes c.args.golden.now.path,
      inr (inl (output_role_text c.args.golden.now.role, inr told)),
    ))
    c.reject_if_found-3.ensures.stopped

pub returns-in-Err-clause-stopped : goal.returns-in-Err-clause-stopped
returns-in-Err-clause-stopped g c = inr (
  path_buf_bytes c.args.golden.now.path,
  inr (inl (
    output_role_text c.args.golden.now.role,
    inl (c.in-Err.error, rw c.as_str-path.ensures at c.file_error_stop.ensures),
  )),
)
