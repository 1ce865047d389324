use Rattle.std.proofs.Common.{◌∙◌, List, ap, ℕ}
use Rattle.std.specs.Borrow.{Bor}
use Rattle.rv_list_locations.proofs.JobTurns.{without_mark}
use Rattle.rv_list_locations.proofs.scan.skip_byte_order_mark.Goals as goal

pub returns-clause-text : goal.returns-clause-text
returns-clause-text c =
    ap (λ (text : Bor (List ℕ)). text.now) c.unwrap_or.ensures
    ∙ without_mark c.args.text c.strip_prefix.result c.strip_prefix.ensures.cases
