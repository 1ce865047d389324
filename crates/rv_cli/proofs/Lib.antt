pub mod Asking
pub mod Commands
pub mod Matching
pub mod Numerals
pub mod Public
pub mod Walking
mod WrittenWords
