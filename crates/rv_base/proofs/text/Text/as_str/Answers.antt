use Rattle.std.proofs.Common.{rules}
use Rattle.rv_base.proofs.text.Text.as_str.Goals as goal

pub returns : goal.returns
returns c = search rules
