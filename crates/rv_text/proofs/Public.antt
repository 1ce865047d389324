-- What other crates may cite of the proofs of this one.
pub use Rattle.rv_text.proofs.XmlCharacters.{xml_append, xml_decimal, xml_escaped, xml_nil, xml_plain}
pub use Rattle.rv_text.proofs.Appended.{all_told, ended, more, one_more, told}
