mod Answering
mod Appending
mod Cuts
mod Determined
mod Looking
mod Gone
mod Same
mod Sought
mod Showing
mod Ending
mod Trapping
mod Asking
mod Breaking
pub mod Public
