pub mod Stacks
pub mod StackSteps
pub mod StackTables
pub mod StackErrors
pub mod Nodes
pub mod Walks
pub use Rattle.rv_counting.specs.JobTables
