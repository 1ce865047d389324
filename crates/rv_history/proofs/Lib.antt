mod Bytes
mod Watched
mod Reaching
mod SingleSteps
mod CurrentVerdict
mod Forward
mod Ways
mod Backward
mod Unstopped
mod Between
mod Arriving
mod Counting
mod Differing
mod Determined
pub mod Public
mod Printing
