use Rattle.std.proofs.Common.{◌*◌, ◌≤◌, arith, length}
use Rattle.rv_session.specs.Incoming.{max_printed}
use Rattle.rv_session.proofs.Looking.{part_is}
use Rattle.rv_session.proofs.receiving.printed_part.Goals as goal

pub returns : goal.returns
returns c =
    let short : length c.args.printed.now ≤ 18446744073709551615 = omega arith in
    part_is c.args.printed.now c.saturating_mul.result c.min-from.result c.min.result (c.args.number * max_printed)
    18446744073709551615 max_printed short c.saturating_mul.ensures c.min-from.ensures c.min.ensures
