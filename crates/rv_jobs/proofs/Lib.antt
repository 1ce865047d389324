pub mod Answering
pub mod Needing
pub mod Noting
pub mod Planning
pub mod Choosing
