pub mod Hearing
pub mod Data
pub mod Folds
mod Digits
mod Endings
mod Parts
mod Reading
mod Sent
mod Marks
mod Rows
