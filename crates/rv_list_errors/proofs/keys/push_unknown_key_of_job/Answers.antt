use Rattle.std.proofs.Common.{[], append-nil, refl, sym}
use Rattle.rv_list_errors.specs.Lines.{BeginsWith}
use Rattle.rv_list_errors.specs.Explanation.{unknown_key_text}
use Rattle.rv_list_errors.proofs.Messages.{adds_some, then_some}
use Rattle.rv_list_errors.proofs.keys.push_unknown_key_of_job.Goals as goal

pub returns-in-Nearest : goal.returns-in-Nearest
returns-in-Nearest c =
    then_some c.args.message.now c.push_unknown_key.new.message c.push_nearest_key.new.message (BeginsWith [])
    (BeginsWith (unknown_key_text c.args.key.now)) (unknown_key_text c.args.key.now) c.push_unknown_key.ensures
    c.push_nearest_key.ensures (λ more is. (more, refl))

pub returns-in-Nothing : goal.returns-in-Nothing
returns-in-Nothing c =
    let text = unknown_key_text c.args.key.now in
    adds_some c.args.message.now c.push_unknown_key.new.message text (BeginsWith text) c.push_unknown_key.ensures
    ([], sym (append-nil text))
