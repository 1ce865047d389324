-- The lemmas that proofs of other crates may cite.
pub use Rattle.rv_text.proofs.Public.{all_told, ended, more, one_more, told, xml_append, xml_decimal, xml_escaped, xml_nil, xml_plain}
