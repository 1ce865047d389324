use Rattle.std.proofs.Common.{◌∙◌, ◌∷◌, ◌++◌, Bool, [], List, map, take, sym, ap, arith, ℕ}
use Rattle.std.proofs.lemmas.List.{map_more, take_all}
use Rattle.rv_choice.specs.Choice.{is_chosen_name, selection_by_criteria, pattern_of, optional_names}
use Rattle.rv_expect.specs.declared_job.Job.{Job}
use Rattle.rv_choice.proofs.selection.selection_by_criteria.Goals as goal

pub loop-index-init : goal.loop-index-init
unfolding selection_by_criteria
loop-index-init c = record { selection = c.new-selection.ensures.items; matcher = c.in_ok-matcher.ensures }

pub loop-index-preserved : goal.loop-index-preserved
unfolding selection_by_criteria
loop-index-preserved c =
    let wanted = c.args.criteria in
    let is = λ (job : Job). is_chosen_name (optional_names wanted.only) (pattern_of wanted.pattern)
    (optional_names wanted.failed) job.name in
    let jobs = c.args.jobs.now in
    let index = c.loop-index.index in
    let job = c.index-jobs-index.result in
    record {
      selection = c.in_ok-push.ensures.items
          ∙ ap (λ (selection : List Bool). selection ++ c.is_chosen_name.result ∷ []) c.loop-index.invariant.selection
          ∙ ap (λ (mark : Bool). map is (take index jobs) ++ mark ∷ [])
          (c.is_chosen_name.ensures.chosen ∙ ap (λ (name : List ℕ). is_chosen_name (optional_names wanted.only)
          (pattern_of wanted.pattern) (optional_names wanted.failed) name) c.as_str.ensures)
          ∙ sym (map_more is jobs index job (omega arith));
      matcher = c.is_chosen_name.ensures.pattern_unchanged ∙ c.loop-index.invariant.matcher;
    }

pub returns : goal.returns
returns c =
    let wanted = c.args.criteria in
    c.loop-index.invariant.selection ∙ ap (selection_by_criteria (optional_names wanted.only) (pattern_of wanted.pattern)
    (optional_names wanted.failed)) (take_all c.loop-index.index c.args.jobs.now (omega arith))
