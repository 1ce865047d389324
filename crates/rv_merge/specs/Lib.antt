pub mod Numbers
pub mod Parts
pub mod Refusals
pub mod Shards
pub mod MergeState
