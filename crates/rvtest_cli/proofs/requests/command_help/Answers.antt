use Rattle.std.proofs.Common.{◌∙◌, ap, map, subst, sym}
use Rattle.clap.specs.Words.{HasKind, fault_of, is_simple_and_free}
use Rattle.rvtest_cli.specs.RvtestCommand.{rvtest_full_app}
use Rattle.rvtest_cli.proofs.RvtestReading.{of_memory, plan_text}
use Rattle.rvtest_cli.proofs.requests.command_help.Goals as goal

pub returns-in_err-command-clause-kinds : goal.returns-in_err-command-clause-kinds
returns-in_err-command-clause-kinds g c =
    of_memory c.from_residual.result (fault_of rvtest_full_app (map g.T.AsStr.text c.args.args.now)) c.from_residual.ensures.1

pub returns-in-Ok-clause-kinds : goal.returns-in-Ok-clause-kinds
returns-in-Ok-clause-kinds g c =
    let args = map g.T.AsStr.text c.args.args.now in
    sym (ap (λ app. fault_of app args) c.in_ok-command.ensures)
    ∙ c.in-Ok.ensures.kinds (ap is_simple_and_free c.in_ok-command.ensures)

pub returns-clause-kinds : goal.returns-clause-kinds
returns-clause-kinds g c =
    let args = map g.T.AsStr.text c.args.args.now in
    plan_text (fault_of rvtest_full_app args) _ _
    (subst (λ app. HasKind (fault_of app args) c.in-Err.error) c.in_ok-command.ensures
    (c.in-Err.ensures.kinds (ap is_simple_and_free c.in_ok-command.ensures))) c.from_clap.ensures
