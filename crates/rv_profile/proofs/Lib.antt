pub mod SpotSums
pub mod Parts
pub mod Found
pub mod Order
pub mod First
pub mod Owned
pub mod Shown
