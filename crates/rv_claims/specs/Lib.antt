pub mod Draws
pub mod Passes
pub mod Split
pub mod NewPieces
