use Rattle.std.proofs.Common.{◌∙◌, ap, sym}
use Rattle.std.specs.Char.{is_ascii_digit}
use Rattle.std.specs.List.{list_all}
use Rattle.rv_choice.proofs.Digits.{no_numeral}
use Rattle.rv_choice.proofs.shard.parse_digits.Goals as goal

pub returns-else-has_only_digits : goal.returns-else-has_only_digits
returns-else-has_only_digits c =
    let told = ap (list_all is_ascii_digit) (sym c.as_bytes.ensures.value) ∙ (sym c.has_only_digits.ensures ∙ c.if-has_only_digits.false) in
    λ numeral. absurd (no_numeral c.args.text.now told numeral)
