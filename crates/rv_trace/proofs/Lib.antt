pub mod Runs
pub mod ShownSteps
pub mod Fetched
pub mod Rows
pub mod Registers
pub mod Stored
pub mod Public
