mod Appending
mod KeptRuns
mod LeftRuns
mod ListIsNoImage
pub mod Public
mod UnchangedJobs
