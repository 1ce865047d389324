pub mod Numbers
pub mod Printable
pub mod Spans
pub mod Symbol
pub mod Xml
