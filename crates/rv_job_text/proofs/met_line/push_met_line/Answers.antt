use Rattle.std.proofs.Common.{◌≡◌, true, append_assoc, rules, sym}
use Rattle.rv_job_text.specs.MetLines.{met_line}
use Rattle.rv_job_text.proofs.met_line.push_met_line.Goals as goal

pub returns : goal.returns
unfolding met_line
returns c =
    let met : c.is_expectation_met.result ≡ true = search rules in
    let text = rw (c.in_ok-push_met_expectation.ensures, c.in_ok-push_text.ensures) at c.push_text-2.ensures in
    rw (sym c.is_expectation_met.ensures, met) (simp append_assoc (simp append_assoc at text))
