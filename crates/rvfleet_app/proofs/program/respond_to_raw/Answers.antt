use Rattle.std.proofs.Common.{◌≡◌, arith}
use Rattle.rvfleet_app.proofs.Answering.{flat_reported}
use Rattle.rvfleet_app.proofs.program.respond_to_raw.Goals as goal

pub returns-in-Ok-clause-reported : goal.returns-in-Ok-clause-reported
returns-in-Ok-clause-reported g c = λ _. flat_reported _ _ _ c.args.budget c.in-Ok.ensures.appended

pub returns-in-Err-clause-reported : goal.returns-in-Err-clause-reported
returns-in-Err-clause-reported g c = λ nought.
    let three : c.write_failure_line.result ≡ 3 = c.write_failure_line.ensures.status in
    absurd (omega arith)
