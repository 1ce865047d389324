use Rattle.std.proofs.Common.{◌≡◌, ◌∙◌, ◌+◌, ◌-◌, ◌^◌, sym, ap, Ok, cond, take, drop, get_or, arith}
use Rattle.std.proofs.lemmas.Bool.{le-leb, lt-leb}
use Rattle.rv_lines.specs.Numbers.{signed_at, signed_or}
use Rattle.rv_lines.proofs.Leb.{signed_none, signed_some, signed_small, signed_large, is_negative}
use Rattle.rv_lines.proofs.numbers.signed_at.Goals as goal
use Rattle.rv_lines.proofs.numbers.signed_at.Goals.{then-negative, else-negative}

pub returns-in_default : goal.returns-in_default
unfolding signed_at
returns-in_default c = ap (signed_or c.args.cut) (signed_none c.args.bytes.now _ c.last_byte.ensures c.in_default.is)

pub returns-then-value : goal.returns-then-value
unfolding signed_at
returns-then-value c =
    let bytes = c.args.bytes.now in
    let i = c.in-Some.last in
    ap (signed_or c.args.cut) (signed_some bytes _ i c.last_byte.ensures c.in-Some.is)
    ∙ signed_large (is_negative bytes i) (take (i + 1) bytes) c.digits_value-value.result (drop (i + 1) bytes)
    c.digits_value-value.ensures (omega arith)

pub returns : goal.returns
unfolding signed_at
returns c =
    let bytes = c.args.bytes.now in
    let i = c.in-Some.last in
    let value = c.digits_value-value.result in
    let same : cond (is_negative bytes i) (2 ^ 32 - 1 - value) value ≡ c.if-negative.number = elim c.if-negative.branch [
      | then-negative w ↦ ap (λ b. cond b (2 ^ 32 - 1 - value) value) (le-leb 64 (get_or bytes i 0) w.if-negative.true) ∙ sym w.number-is
      | else-negative w ↦ ap (λ b. cond b (2 ^ 32 - 1 - value) value) (lt-leb 64 (get_or bytes i 0) w.if-negative.false) ∙ sym w.number-is
    ] in
    ap (signed_or c.args.cut) (signed_some bytes _ i c.last_byte.ensures c.in-Some.is)
    ∙ signed_small (is_negative bytes i) (take (i + 1) bytes) value (drop (i + 1) bytes) c.digits_value-value.ensures (omega arith)
    ∙ ap (λ r. Ok (cond (is_negative bytes i) (2 ^ 32 - 1 - value) value, r)) (sym c.bytes_from.ensures)
    ∙ ap (λ n. Ok (n, c.bytes_from.result.now)) same
