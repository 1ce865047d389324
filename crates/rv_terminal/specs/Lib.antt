pub mod ColorSinks
pub mod Colors
pub mod ProgressLine
pub mod Tallies
