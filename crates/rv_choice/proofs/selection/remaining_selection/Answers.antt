use Rattle.std.proofs.Common.{◌∙◌, ◌∷◌, ◌++◌, Bool, [], List, ap, arith, is_some, sym, take, ℕ}
use Rattle.std.proofs.lemmas.List.{get_or_default, take_all}
use Rattle.regex.specs.Patterns.{Re, find_str}
use Rattle.regex.specs.Strings.{regex_pattern}
use Rattle.rv_choice.specs.Choice.{stays_selected, remaining_selection}
use Rattle.rv_choice.proofs.Names.{left_more}
use Rattle.rv_expect.specs.declared_job.Job.{Job}
use Rattle.rv_choice.proofs.selection.remaining_selection.Goals as goal

pub loop-index-init : goal.loop-index-init
unfolding remaining_selection
loop-index-init c = record { remaining = c.new-remaining.ensures.items; matcher = c.in_ok-matcher.ensures.pattern }

pub loop-index-preserved : goal.loop-index-preserved
loop-index-preserved c =
    let pattern = regex_pattern c.args.excluded.now in
    let jobs = c.args.jobs.now in
    let selection = c.args.selection.now in
    let index = c.loop-index.index in
    let job = c.index-jobs-index.result in
    let found = c.is_match-is_found.ensures.found
    ∙ (ap (λ (args : Re). is_some (find_str args c.as_str.result.now 0)) c.loop-index.invariant.matcher
    ∙ (ap (λ (name : List ℕ). is_some (find_str pattern name 0)) c.as_str.ensures
    ∙ ap (λ (j : Job). is_some (find_str pattern j.name 0)) (sym c.index-jobs-index.is))) in
    record {
      remaining = c.in_ok-push.ensures.items
          ∙ (ap (λ (remaining : List Bool). remaining ++ c.stays_selected.result ∷ []) c.loop-index.invariant.remaining
          ∙ (ap (λ (m : Bool). remaining_selection pattern (take index jobs) (take index selection) ++ m ∷ [])
          (c.stays_selected.ensures ∙ ap (stays_selected _) found)
          ∙ sym (left_more pattern jobs selection index job _ c.requires (omega arith) (sym c.index-jobs-index.is)
          (get_or_default selection index _ _ (omega (arith, c.requires))))));
      matcher = c.is_match-is_found.ensures.same ∙ c.loop-index.invariant.matcher;
    }

pub returns : goal.returns
returns c =
    let pattern = regex_pattern c.args.excluded.now in
    let index = c.loop-index.index in
    c.loop-index.invariant.remaining
    ∙ (ap (λ (jobs : List Job). remaining_selection pattern jobs (take index c.args.selection.now))
    (take_all index c.args.jobs.now (omega arith))
    ∙ ap (remaining_selection pattern c.args.jobs.now) (take_all index c.args.selection.now (omega (arith, c.requires))))
