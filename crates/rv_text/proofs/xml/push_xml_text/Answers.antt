use Rattle.std.proofs.Common.{◌≡◌, arith, append_assoc, append-nil, length, string_bytes}
use Rattle.std.proofs.lemmas.Grind.{common_steps}
use Rattle.rv_text.specs.Xml.{after_first_xml_text, xml_text_from, first_xml_text}
use Rattle.rv_text.proofs.XmlTexts.{escaped-empty, escaped-front}
use Rattle.rv_text.proofs.xml.push_xml_text.Goals as goal

pub loop-rest-preserved : goal.loop-rest-preserved
loop-rest-preserved c =
    let within = c.args.context in
    let bytes = c.loop-rest.rest.now in
    cc (
      escaped-front within bytes (omega (arith, c.in_ok-rest.ensures.shorter)),
      c.loop-rest.invariant,
      c.in_ok-rest.ensures.text,
      c.in_ok-rest.ensures.rest,
      append_assoc (string_bytes c.loop-rest.text) (first_xml_text within bytes)
          (xml_text_from within 0 (after_first_xml_text bytes)),
    )

pub returns : goal.returns
returns c =
    let empty : length c.loop-rest.rest.now ≡ 0 = grind (arith, common_steps) in
    cc (escaped-empty c.args.context c.loop-rest.rest.now empty, append-nil (string_bytes c.loop-rest.text))
