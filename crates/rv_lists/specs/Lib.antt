pub mod Reading
pub mod Keys
pub mod KeysInside
pub mod Jobs
pub mod JobList
pub mod JobSteps
pub mod EarlierJobsInside
pub mod Faults
pub mod ListFaults
pub use Rattle.rv_base.specs.Counts
pub use Rattle.rv_base.specs.Files
pub use Rattle.rv_base.specs.Limits
pub use Rattle.rv_base.specs.Names
pub use Rattle.rv_base.specs.Sinks
pub use Rattle.rv_machine.specs.Faults as MachineFaults
pub use Rattle.rv_machine.specs.declared.ending as declared_ending
pub use Rattle.rv_machine.specs.declared_map
