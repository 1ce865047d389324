pub mod Coverage
pub mod Blocks
pub mod Tallies
pub mod Counters
pub mod JobTables
pub mod RunCounts
pub mod BatchRanges
pub mod TableSums
pub use Rattle.rv_count_tables.specs.declared.sum as declared_sum
pub use Rattle.rv_count_tables.specs.declared.table as declared_table
pub use Rattle.rv_fleet.specs.Batches
pub use Rattle.rv_fleet.specs.JobIndices
pub use Rattle.rv_fleet.specs.Results
pub use Rattle.rv_fleet.specs.declared.batch as declared_batch
pub use Rattle.rv_fleet.specs.declared_engine
pub use Rattle.rv_fleet.specs.declared_listener
pub use Rattle.rv_fleet.specs.declared_report
pub use Rattle.rv_fleet.specs.declared_row
pub use Rattle.rv_trace.specs.Bits
pub use Rattle.rv_trace.specs.Code
pub use Rattle.rv_trace.specs.Fetch
pub use Rattle.rv_trace.specs.Image
pub use Rattle.rv_trace.specs.Jobs
pub use Rattle.rv_trace.specs.Machine
pub use Rattle.rv_trace.specs.Plans
pub use Rattle.rv_trace.specs.RecentOutcomes
pub use Rattle.rv_trace.specs.Rows
pub use Rattle.rv_trace.specs.Run
pub use Rattle.rv_trace.specs.State
pub use Rattle.rv_trace.specs.SymbolSearch
pub use Rattle.rv_trace.specs.Trace
pub use Rattle.rv_trace.specs.declared.code as declared_code
pub use Rattle.rv_trace.specs.declared_answers
pub use Rattle.rv_trace.specs.declared_elf_error
pub use Rattle.rv_trace.specs.declared_ending
pub use Rattle.rv_trace.specs.declared_image
pub use Rattle.rv_trace.specs.declared_instruction
pub use Rattle.rv_trace.specs.declared_job
