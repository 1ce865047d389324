use Rattle.std.proofs.Common.{◌∙◌, ℕ, List, inr, sym}
use Rattle.rv_choice.proofs.Stops.{said_of_text}
use Rattle.rv_choice.specs.ChoiceStops.{IsPatternStop, IsUnmatchedPattern}
use Rattle.rv_choice.proofs.chooser.Chooser.requested_pattern.Goals as goal

pub returns-else-branch-clause-stopped : goal.returns-else-branch-clause-stopped
returns-else-branch-clause-stopped g c =
    let Says : List ℕ → Type 0 =
    λ text. IsPatternStop c.args.self.now.args.now.list.now text c.args.jobs.now c.unmatched_pattern_stop.result in
    let of = c.in_ok-pattern.ensures in
    let none = sym c.in_ok-is_found_in_job_names.ensures ∙ c.if-branch.false in
    let unmatched : IsUnmatchedPattern c.in-Some.text.now c.args.jobs.now =
    (c.in_ok-pattern.pattern, of.source, of.default_options, none) in
    said_of_text Says c.args.self.now.args.now.pattern c.in-Some.text c.in-Some.is
    (inr (inr (unmatched, c.unmatched_pattern_stop.ensures)))
