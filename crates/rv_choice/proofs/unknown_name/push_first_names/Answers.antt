use Rattle.std.proofs.Common.{◌∙◌, ◌++◌, ℕ, List, ap, append_assoc, arith, sym}
use Rattle.std.proofs.lemmas.List.{append-nil}
use Rattle.rv_choice.proofs.ToldNames.{names_more}
use Rattle.rv_choice.specs.UnknownName.{names_from, text_before_name}
use Rattle.rv_choice.proofs.unknown_name.push_first_names.Goals as goal

pub loop-index-init : goal.loop-index-init
unfolding names_from
loop-index-init c = sym (append-nil _)

pub loop-index-preserved : goal.loop-index-preserved
loop-index-preserved c =
    let count = c.args.count in
    let index = c.loop-index.index in
    let job = c.index-jobs-index.result in
    let before : List ℕ = c.args.message.now.items in
    let lead = text_before_name index count in
    c.in_ok-push_name.ensures
    ∙ (ap (λ (name : List ℕ). c.loop-index.message.items ++ (lead ++ name)) c.as_str.ensures
    ∙ (ap (λ (m : List ℕ). m ++ (lead ++ job.name)) c.loop-index.invariant
    ∙ (append_assoc before _ _
    ∙ ap (λ (names : List ℕ). before ++ names)
    (sym (names_more count c.args.jobs.now index job (omega arith) (sym c.index-jobs-index.is))))))
