pub mod Bits
pub mod Tables
pub mod Extensions
pub mod Words
pub mod Halfwords
