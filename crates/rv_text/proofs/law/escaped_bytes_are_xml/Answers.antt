use Rattle.rv_text.proofs.XmlTexts.{text_escaped}
use Rattle.rv_text.proofs.law.escaped_bytes_are_xml.Goals as goal

pub returns : goal.returns
returns c = λ within bytes are. text_escaped within 0 bytes are
