pub mod Responses
pub mod Failures
pub mod Lines
pub mod ElfImage
pub mod Plans
pub mod FlatImage
