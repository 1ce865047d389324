use Rattle.std.proofs.Common.{◌+◌, ◌<◌, ◌∙◌, arith, drop, length, sym}
use Rattle.std.specs.FinMap as fin
use Rattle.rv_history.proofs.Bytes.{none_left, other_left, same_left, seen_none, seen_some, unlike}
use Rattle.rv_history.proofs.stops.Watch.index_after_bytes.Goals as goal
use Rattle.rv_history.proofs.stops.Watch.index_after_bytes.Goals.{then-seen-bytes-via-then-seen-bytes, then-seen-bytes-via-else-seen-bytes+then-bytes-seen, in-Some+else-seen-bytes+else-bytes-seen, in_default}

pub returns-then-seen-bytes-clause-bytes : goal.returns-then-seen-bytes-clause-bytes
returns-then-seen-bytes-clause-bytes c =
    let byte_of = fin.get c.args.bus.now.memory in
    let bytes = c.args.bytes.now in
    let seen = c.loop-offset.seen in
    let byte = c.in-Some.byte in
    unlike byte_of c.args.self.now.address c.loop-offset.offset byte c.args.self.now.count (drop c.args.from bytes) (drop seen bytes)
    (omega arith) (sym c.in-Some.is ∙ c.byte.ensures) c.loop-offset.invariant.so_far (elim c.then-seen-bytes.branch [
      | then-seen-bytes-via-then-seen-bytes w ↦ none_left bytes seen byte (let end = w.if-seen-bytes.true in omega (arith, end))
      | then-seen-bytes-via-else-seen-bytes+then-bytes-seen w ↦ other_left bytes seen byte
          (let more = w.if-seen-bytes.false in omega (arith, c.loop-offset.invariant.within, more)) w.if-bytes-seen.true
    ])

pub loop-offset-preserved : goal.loop-offset-preserved
loop-offset-preserved c =
    let byte_of = fin.get c.args.bus.now.memory in
    let bytes = c.args.bytes.now in
    let address = c.args.self.now.address in
    let offset = c.loop-offset.offset in
    let seen = c.loop-offset.seen in
    elim c.match-byte.branch [
      | in-Some+else-seen-bytes+else-bytes-seen w ↦
          let here : seen < length bytes = let more = w.if-seen-bytes.false in omega (arith, c.loop-offset.invariant.within, more) in
          rw w.seen-is (record {
            within = omega (arith, here);
            so_far = seen_some byte_of address offset w.in-Some.byte (drop c.args.from bytes) (drop seen bytes) (drop (seen + 1) bytes)
                (sym w.in-Some.is ∙ c.byte.ensures) (same_left bytes seen w.in-Some.byte here w.if-bytes-seen.false)
                c.loop-offset.invariant.so_far;
          })
      | in_default w ↦ rw w.seen-is (record {
        within = c.loop-offset.invariant.within;
        so_far = seen_none byte_of address offset (drop c.args.from bytes) (drop seen bytes) (sym w.in_default.is ∙ c.byte.ensures)
            c.loop-offset.invariant.so_far;
      })
    ]
