-- Documents assembled from parts.
use Rattle.std.specs.Prelude.{ℕ, List, ◌++◌, codes}
use Rattle.std.specs.Fmt.{decimal}
use Rattle.rv_junit.specs.declared.xml_pieces.XmlPiece.{XmlPiece}
use Rattle.rv_junit.specs.declared.xml_pieces.XmlPiece.TheVariants as piece
use Rattle.rv_job_text.specs.declared_xml.XmlContext.TheVariants.{Attribute, Element}
use Rattle.rv_job_text.specs.TextWords.{count_text}
use Rattle.rv_job_text.specs.Xml.{xml_text}

-- an XML attribute with a name and a value, which is escaped
unfoldable pub attribute : List ℕ → List ℕ → List ℕ
attribute name value = codes " " ++ name ++ codes "=\"" ++ xml_text Attribute value ++ codes "\""

-- an XML attribute whose value is a number
unfoldable pub number_attribute : List ℕ → ℕ → List ℕ
number_attribute name number = codes " " ++ name ++ codes "=\"" ++ decimal number ++ codes "\""

-- the text of a piece, as it is written
abbrev pub piece_text : XmlPiece → List ℕ
piece_text (piece.Text text) = text.now
piece_text (piece.Count number noun) = count_text number noun.now
piece_text (piece.Attribute name value) = attribute name.now value.now
piece_text (piece.NumberAttribute name number) = number_attribute name.now number
piece_text (piece.Element text) = xml_text Element text.now
