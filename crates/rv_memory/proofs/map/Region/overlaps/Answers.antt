use Rattle.std.proofs.Common.{◌+◌, refl, arith}
use Rattle.std.proofs.lemmas.Bool.{lt-ltb}
use Rattle.rv_memory.proofs.map.Region.overlaps.Goals as goal

pub returns-then-from-end : goal.returns-then-from-end
returns-then-from-end c =
    let other = c.args.other.now in
    let begins_before = lt-ltb c.args.self.now.base (other.base + other.size) (omega arith) in
    rw (begins_before, c.from-then-from-end.ensures, c.end-then-from-end.ensures) refl
