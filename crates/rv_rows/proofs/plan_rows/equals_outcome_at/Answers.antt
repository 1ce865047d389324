use Rattle.std.proofs.Common.{◌∙◌, Option, ap, option_map, sym, unwrap_or}
use Rattle.std.proofs.lemmas.Option.{slice_get-get_or}
use Rattle.rv_rows.specs.declared.outcome.Outcome.{Outcome}
use Rattle.rv_rows.specs.Rows.{outcome_in}
use Rattle.rv_rows.specs.Verdict.{outcomes_match}
use Rattle.rv_rows.proofs.plan_rows.equals_outcome_at.Goals as goal

pub returns-in-Some-clause-value : goal.returns-in-Some-clause-value
returns-in-Some-clause-value c = λ d.
    let outcome = outcome_in c.args.plan.now.results in
    let there = slice_get-get_or c.args.plan.now.jobs c.args.index d c.requires.index in
    let kept = sym (ap (option_map outcome) there) ∙ c.in-Some.ensures c.args.plan.now c.requires.recent in
    c.outcomes_match.ensures ∙ sym (ap (λ (o : Option Outcome). outcomes_match c.args.outcome.now
    (unwrap_or o c.in-Some.other.now)) kept)
