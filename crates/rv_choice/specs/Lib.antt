pub mod BadValues
pub mod Choice
pub mod ChoiceStops
pub mod ChosenJobs
pub mod FailedJobNotes
pub mod Shard
pub mod UnknownName
