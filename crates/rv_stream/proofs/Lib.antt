pub mod Public
mod Tellings
mod Sending
mod Limits
mod Received
mod Ranges
