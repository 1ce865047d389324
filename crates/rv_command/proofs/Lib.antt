pub mod Public
mod PartialFaults
mod SavedRows
mod Told
