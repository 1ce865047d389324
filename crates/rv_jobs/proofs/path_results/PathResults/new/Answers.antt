use Rattle.std.proofs.Common.{◌∙◌, ap, map, length, sym, List, ℕ}
use denote.Ref.{Bor}
use Rattle.rv_jobs.specs.declared.kept.Kept.{Kept}
use Rattle.rv_lists.proofs.Public.{no_places}
use Rattle.rv_jobs.proofs.path_results.PathResults.new.Goals as goal

pub invariant_of-result : goal.invariant_of-result
invariant_of-result c =
    let none = ap (map (λ (q : Bor (List ℕ)). q.now)) c.new-3.ensures.items in
    record {
      same_length = ap length none ∙ sym (ap (length {A = Kept}) c.new-2.ensures.items);
      indices =
          no_places c.in_ok-indices.indices (map (λ (q : Bor (List ℕ)). q.now) c.new-3.result.items)
          c.in_ok-indices.ensures.empty none;
    }
