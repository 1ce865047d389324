-- What is told of regions that are no map, with more behind it.
use Rattle.std.proofs.Common.{◌∙◌, ◌++◌, List, ℕ, ap, append_assoc, inl, inr}
use Rattle.std.specs.Prelude.{codes}
use Rattle.rv_list_errors.specs.JobFaults.{ExplainsRegions}

pub regions_and_more : (text more : List ℕ) → ExplainsRegions text → ExplainsRegions (text ++ more)
regions_and_more text more (inl (rest, e)) =
    inl (rest ++ more, ap (λ l. l ++ more) e ∙ append_assoc (codes "region") rest more)
regions_and_more text more (inr (rest, e)) =
    inr (rest ++ more, ap (λ l. l ++ more) e ∙ append_assoc (codes "the sizes of the regions add up to ") rest more)
