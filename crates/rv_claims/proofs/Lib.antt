pub mod Sums
pub mod Keeps
pub mod Passes
pub mod Grows
pub mod Public
