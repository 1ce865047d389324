pub mod StoredAgain
pub mod QuietSteps
pub mod Cycles
pub mod Waits
pub mod Starts
