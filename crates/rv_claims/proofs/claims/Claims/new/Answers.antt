use Rattle.rv_claims.proofs.Passes.{opens_row, opened_pass}
use Rattle.rv_claims.proofs.claims.Claims.new.Goals as goal

pub of_words-requires : goal.of_words-requires
of_words-requires c = opens_row _ _ c.initial_words-words.ensures

pub invariant_of-pass : goal.invariant_of-pass
invariant_of-pass c = let e = c.in_ok-table.ensures.4 in opened_pass _ _ e
