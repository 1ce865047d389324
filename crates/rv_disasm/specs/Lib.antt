pub mod Operands
pub mod Forms
pub mod Unsimulated
pub mod Illegal
pub mod Assembly
