pub mod Incoming
pub mod Streaming
