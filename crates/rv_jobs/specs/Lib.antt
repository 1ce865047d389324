pub mod Kept
pub mod Plans
pub mod ResultIndices
pub mod PathResultsInside
pub mod PlanInside
pub mod Selection
pub use Rattle.rv_lists.specs.Counts
pub use Rattle.rv_lists.specs.Faults
pub use Rattle.rv_lists.specs.Files
pub use Rattle.rv_lists.specs.JobList
pub use Rattle.rv_lists.specs.Jobs
pub use Rattle.rv_lists.specs.Keys
pub use Rattle.rv_lists.specs.Limits
pub use Rattle.rv_lists.specs.ListFaults
pub use Rattle.rv_lists.specs.Names
pub use Rattle.rv_lists.specs.Parsing
pub use Rattle.rv_lists.specs.Sinks
pub use Rattle.rv_lists.specs.declared.error as declared_error
pub use Rattle.rv_lists.specs.declared.job as declared_job
