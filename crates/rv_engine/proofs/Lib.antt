mod Hearing
pub mod Public
