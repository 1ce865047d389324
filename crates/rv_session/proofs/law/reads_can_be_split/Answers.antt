use Rattle.rv_session.proofs.Cuts.{fed_both}
use Rattle.rv_session.proofs.law.reads_can_be_split.Goals as goal

pub returns : goal.returns
returns c = λ end_text behind session between next front rest out more.
    fed_both end_text behind rest session between next front out more
