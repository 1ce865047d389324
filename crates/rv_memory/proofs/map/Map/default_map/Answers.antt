use Rattle.std.proofs.Common.{refl}
use Rattle.rv_memory.proofs.map.Map.default_map.Goals as goal

pub returns : goal.returns
returns c = refl
