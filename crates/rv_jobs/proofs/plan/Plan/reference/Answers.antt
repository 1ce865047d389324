use Rattle.std.proofs.Common.{◌∙◌, sym, ap, option_map}
use denote.Ref.{Bor}
use Rattle.std.proofs.Common.{List, ℕ}
use Rattle.rv_lists.specs.declared.job.Job.{Job}
use Rattle.rv_jobs.proofs.Planning.{found, named_within, named_kept}
use Rattle.rv_jobs.proofs.plan.Plan.reference.Goals as goal

pub result_at_or_unreadable-requires : goal.result_at_or_unreadable-requires
result_at_or_unreadable-requires c =
    let placed = found c.self.inside c.self.invariant c.args.self.now c.self.view_is c.args.i c.requires
    c.index.result.now c.index.ensures in
    named_within c.self.inside c.self.invariant c.args.self.now c.self.view_is c.args.i c.requires c.index.result.now
    c.index.ensures (λ (j : Job). j.expect_signature) c.index.result.now.reference (λ d. (placed d).reference)

pub returns-in-Some : goal.returns-in-Some
returns-in-Some c =
    let placed = found c.self.inside c.self.invariant c.args.self.now c.self.view_is c.args.i c.requires
    c.index.result.now c.index.ensures in
    named_kept c.self.inside c.self.invariant c.args.self.now c.self.view_is c.args.i c.requires c.index.result.now
    c.index.ensures (λ (j : Job). j.expect_signature) c.index.result.now.reference
    (λ d. (placed d).reference) c.job.result.now c.in-Some.field-0.now
    c.result_at_or_unreadable.result.now c.job.ensures.value
    (sym c.reference_path.ensures ∙ ap (option_map (λ (q : Bor (List ℕ)). q.now)) c.in-Some.is) c.result_at_or_unreadable.ensures
