use Rattle.std.proofs.Common.{◌≡◌, refl, true, false}
use Rattle.std.proofs.lemmas.Str.{is_utf8-from_IsUtf8}
use Rattle.std.specs.Str.{is_utf8}
use Rattle.rv_text.specs.Xml.{first_xml_character}
use Rattle.rv_text.proofs.XmlTexts.{is_utf8-false}
use Rattle.rv_text.proofs.xml.first_xml_character.Goals as goal

pub returns-in-Ok : goal.returns-in-Ok
unfolding first_xml_character
returns-in-Ok c =
    let yes : is_utf8 c.first_xml_bytes.result.now ≡ true =
    is_utf8-from_IsUtf8 c.first_xml_bytes.result.now c.in-Ok.ensures.cases.1 in
    rw (← c.first_xml_bytes.ensures, yes)
    (cc (c.allowed_xml_character.ensures, c.next.ensures.steps.2, c.chars.ensures.rest, c.in-Ok.ensures.cases.0))

pub returns-in-Err : goal.returns-in-Err
unfolding first_xml_character
returns-in-Err c =
    let no : is_utf8 c.first_xml_bytes.result.now ≡ false =
    is_utf8-false c.first_xml_bytes.result.now c.in-Err.ensures.cases.0 in
    rw (← c.first_xml_bytes.ensures, no) refl
