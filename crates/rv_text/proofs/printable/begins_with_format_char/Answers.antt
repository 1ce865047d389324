use Rattle.std.proofs.Common.{◌≡◌, refl, true, false}
use Rattle.std.proofs.lemmas.Str.{is_utf8-from_IsUtf8}
use Rattle.std.specs.Str.{is_utf8}
use Rattle.rv_text.specs.Printable.{begins_with_format_char}
use Rattle.rv_text.proofs.Pieces.{is_utf8-false}
use Rattle.rv_text.proofs.printable.begins_with_format_char.Goals as goal

pub returns-in-Ok : goal.returns-in-Ok
unfolding begins_with_format_char
returns-in-Ok c =
    let yes : is_utf8 c.first_character_bytes.result.now ≡ true =
    is_utf8-from_IsUtf8 c.first_character_bytes.result.now c.in-Ok.ensures.cases.1 in
    rw (← c.first_character_bytes.ensures.value, yes)
    (cc (c.is_some_format_char.ensures, c.next.ensures.steps.2, c.chars.ensures.rest, c.in-Ok.ensures.cases.0))

pub returns-in-Err : goal.returns-in-Err
unfolding begins_with_format_char
returns-in-Err c =
    let no : is_utf8 c.first_character_bytes.result.now ≡ false =
    is_utf8-false c.first_character_bytes.result.now c.in-Err.ensures.cases.0 in
    rw (← c.first_character_bytes.ensures.value, no) refl
