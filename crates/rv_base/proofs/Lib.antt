pub mod Outgoing
pub mod Public
pub mod Places
