pub mod Limits
pub mod Names
pub mod Counts
pub mod Files
pub mod Sinks
