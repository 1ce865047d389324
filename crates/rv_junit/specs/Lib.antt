pub mod XmlPieces
pub mod Junit
pub mod KnownLines
