use Rattle.std.proofs.Common.{◌≡◌, ◌++◌, length, string_bytes}
use Rattle.rv_text.specs.Xml.{xml_text}
use Rattle.rv_text.proofs.xml.push_xml_text.Given as goal

abbrev pub invariant-loop-rest : goal.invariant-loop-rest
invariant-loop-rest l = string_bytes l.text ++ xml_text l.context l.rest
    ≡ string_bytes l.initial.text ++ xml_text l.context l.bytes

abbrev pub decreases-loop-rest : goal.decreases-loop-rest
decreases-loop-rest l = length l.rest
