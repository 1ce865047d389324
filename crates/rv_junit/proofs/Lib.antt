pub mod Public
mod KnownLines
pub mod Laws
pub mod CaseTexts
pub mod Documents
