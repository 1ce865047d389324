use Rattle.std.proofs.Common.{◌∙◌, [], ap, map, subst, sym}
use Rattle.std.proofs.lemmas.Result.{IfOk-weaker}
use Rattle.clap.specs.Words.{HasKind, app_of, fault_of, is_simple_and_free, kind_of}
use Rattle.rvtest_cli.specs.RvtestArgs.{FailsByMisuse, matched_misuse, misuse_kinds, plain_error_kinds, plain_misuse, matched_request}
use Rattle.rvtest_cli.specs.ArgsErrors.{FailsByKinds}
use Rattle.rvtest_cli.proofs.RvtestReading.{faults, here, kinds_of_misuse, no_misuse, none_told, of_memory, refused, plan_text, told_where_failed}
use Rattle.rvtest_cli.proofs.requests.read_request.Goals as goal

pub returns-in_err-command-clause-kinds : goal.returns-in_err-command-clause-kinds
returns-in_err-command-clause-kinds g c =
    of_memory c.from_residual.result (plain_error_kinds (map g.T.AsStr.text c.args.args.now)) c.from_residual.ensures.1

pub returns-in_err-command-clause-misused : goal.returns-in_err-command-clause-misused
returns-in_err-command-clause-misused g c none =
    no_misuse c.from_residual.result (plain_misuse (map g.T.AsStr.text c.args.args.now)) c.from_residual.ensures.1

pub returns-in-Err-clause-kinds : goal.returns-in-Err-clause-kinds
returns-in-Err-clause-kinds g c =
    let args = map g.T.AsStr.text c.args.args.now in
    plan_text (plain_error_kinds args) _ _
    (refused (app_of c.in_ok-command.command) args c.in-Err.error c.in_ok-command.ensures
    (c.in-Err.ensures.kinds (ap is_simple_and_free c.in_ok-command.ensures))) c.from_clap.ensures

pub returns-in-Err-clause-misused : goal.returns-in-Err-clause-misused
returns-in-Err-clause-misused g c none =
    let args = map g.T.AsStr.text c.args.args.now in
    none_told (plain_misuse args) _ (plan_text [] (kind_of c.in-Err.error) _
    (subst (λ kinds. HasKind kinds c.in-Err.error) (ap (λ app. fault_of app args) c.in_ok-command.ensures ∙ none)
    (c.in-Err.ensures.kinds (ap is_simple_and_free c.in_ok-command.ensures))) c.from_clap.ensures)

pub returns-in-Ok-clause-value : goal.returns-in-Ok-clause-value
returns-in-Ok-clause-value g c =
    let args = map g.T.AsStr.text c.args.args.now in
    let is = here (app_of c.in_ok-command.command) args c.in-Ok.matches c.in_ok-command.ensures
    c.in-Ok.ensures.matches in
    IfOk-weaker c.matched_request.result _ _ (λ request reads. reads.0 ∙ ap matched_request is) c.matched_request.ensures.0

pub returns-in-Ok-clause-within : goal.returns-in-Ok-clause-within
returns-in-Ok-clause-within g c = IfOk-weaker c.matched_request.result _ _ (λ request reads. reads.1) c.matched_request.ensures.0

pub returns-in-Ok-clause-kinds : goal.returns-in-Ok-clause-kinds
returns-in-Ok-clause-kinds g c =
    let args = map g.T.AsStr.text c.args.args.now in
    let is = here (app_of c.in_ok-command.command) args c.in-Ok.matches c.in_ok-command.ensures
    c.in-Ok.ensures.matches in
    let none = sym (ap (λ app. fault_of app args) c.in_ok-command.ensures)
    ∙ c.in-Ok.ensures.kinds (ap is_simple_and_free c.in_ok-command.ensures) in
    subst (λ kinds. FailsByKinds kinds c.matched_request.result) (ap (λ found. misuse_kinds (matched_misuse found)) is ∙ faults args none)
    (kinds_of_misuse _ c.matched_request.result c.matched_request.ensures.1)

pub returns-in-Ok-clause-misused : goal.returns-in-Ok-clause-misused
returns-in-Ok-clause-misused g c none =
    let args = map g.T.AsStr.text c.args.args.now in
    let is = here (app_of c.in_ok-command.command) args c.in-Ok.matches c.in_ok-command.ensures
    c.in-Ok.ensures.matches in
    told_where_failed (plain_misuse args) c.matched_request.result
    (subst (λ misuse. FailsByMisuse misuse c.matched_request.result) (ap matched_misuse is) c.matched_request.ensures.1)
