-- What is counted so far and what the rest has are together what all has.
use Rattle.std.proofs.Common.{◌≡◌, length}
use Rattle.rv_cover_view.specs.Codes.{codes_from}
use Rattle.rv_cover_view.specs.Cover.{totals_of_codes}
use Rattle.rv_cover_view.specs.Totals.{plus}
use Rattle.rv_cover_view.proofs.code.totals_of_code.Given as goal

abbrev pub invariant-loop-code : goal.invariant-loop-code
invariant-loop-code l = plus l.totals (totals_of_codes l.counts (codes_from (length l.rest) l.address l.rest))
    ≡ totals_of_codes l.counts (codes_from (length l.code) l.fn.address l.code)

abbrev pub decreases-loop-code : goal.decreases-loop-code
decreases-loop-code l = length l.rest
