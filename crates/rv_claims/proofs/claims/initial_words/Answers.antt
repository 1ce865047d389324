use Rattle.std.proofs.Common.{refl}
use Rattle.rv_claims.proofs.claims.initial_words.Goals as goal

pub returns : goal.returns
returns c = refl
