use Rattle.std.proofs.Common.{refl}
use Rattle.clap.specs.Words.{found_of, rows_of}
use Rattle.rvtest_cli.proofs.RvtestReading.{met, none_met}
use Rattle.rvtest_cli.proofs.requests.matched_request.Goals as goal

pub returns-in-Some : goal.returns-in-Some
returns-in-Some c =
    rw (met _ c.in-Some.name.now (rows_of (found_of c.in-Some.values.now)) c.in-Some.ensures.name c.in-Some.ensures.rows)
    c.subcommand_request.ensures

pub returns-in-None : goal.returns-in-None
returns-in-None c = rw (none_met _ c.in-None.ensures.variant) ((refl, _), refl)
