use Rattle.std.proofs.Common.{◌++◌, ℕ, List, codes}
use Rattle.rv_expect.specs.Comparisons.{comparison_view}
use Rattle.rv_job_text.specs.UnmetLines.{unmet_expectation_text, unmet_margin}
use Rattle.rv_text.proofs.Public.{ended, more}
use Rattle.rv_job_text.proofs.unmet_line.push_expected_line.Goals as goal

pub returns : goal.returns
returns c =
    let margin : List ℕ = unmet_margin c.args.unmet in
    let text : List ℕ = unmet_expectation_text c.args.address (comparison_view c.args.comparison.now) c.args.unmet in
    ended _ _ _ _ (margin ++ text) (codes "\n")
    (more _ _ _ margin text (rw c.unmet_margin.ensures at c.in_ok-push_text.ensures) c.in_ok-push_unmet_expectation.ensures)
    c.push_text-2.ensures
