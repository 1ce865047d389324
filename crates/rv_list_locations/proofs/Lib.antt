pub mod Counting
pub mod JobTurns
pub mod Tails
pub mod KeyParts
pub mod NamedKeys
pub mod JobLaw
