pub mod Change
pub mod RowsByName
pub mod ByNameInside
pub mod Differences
pub mod Diff
