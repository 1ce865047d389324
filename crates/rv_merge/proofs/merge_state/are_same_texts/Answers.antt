use Rattle.std.proofs.Common.{[]}
use Rattle.rv_merge.proofs.Texts.{same_texts}
use Rattle.rv_merge.proofs.merge_state.are_same_texts.Goals as goal

pub returns : goal.returns
returns c =
    same_texts c.args.texts.now c.args.index c.args.other (record { ref_ptr = (0, 0); now = [] }) c.eq.result
    c.requires.index c.requires.other c.eq.ensures
