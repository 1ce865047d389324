use Rattle.rv_expect.proofs.Tellings.{tells}
use Rattle.rv_expect.proofs.law.unmet_is_what_does_not_hold.Goals as goal

pub returns : goal.returns
returns c = tells
