pub mod Elements
pub mod Meeting
pub mod Editing
mod AcceptedRuns
mod Agreement
mod ClaimedFiles
mod GoldenPaths
mod ImagesThatRan
mod MarkCounts
mod OverFiles
mod Passing
pub mod Public
