pub mod Differences
pub mod References
pub mod Tellings
pub mod OfPlans
pub mod TwoEnds
mod KnownLines
mod KnownPlaces
mod Collecting
