pub mod Entries
pub mod JobPlaces
pub mod Steps
pub mod JobStages
pub mod AllFaults
pub mod Public
