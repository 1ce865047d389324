mod BadValues
mod Counted
mod Digits
mod Names
pub mod Public
mod Stops
mod ToldNames
