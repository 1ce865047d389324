use Rattle.rv_junit.proofs.Documents.{xml_junit}
use Rattle.rv_junit.proofs.law.documents_are_xml_characters.Goals as goal

pub returns : goal.returns
returns c = xml_junit
