pub mod Counting
pub mod Courses
pub mod Marks
pub mod Pieces
pub mod Sequences
