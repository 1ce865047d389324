pub mod Pieces
pub mod PrintableTexts
pub mod Appended
pub mod XmlTexts
pub mod XmlCharacters
pub mod Public
