pub mod Code
pub mod Steps
pub mod Trace
pub mod ShownSteps
pub mod Text
pub use Rattle.rv_machine.specs.Bits
pub use Rattle.rv_machine.specs.Bus
pub use Rattle.rv_machine.specs.DecodeCache
pub use Rattle.rv_machine.specs.Effect
pub use Rattle.rv_machine.specs.Extensions
pub use Rattle.rv_machine.specs.Fetch
pub use Rattle.rv_machine.specs.Halfwords
pub use Rattle.rv_machine.specs.IsaWords
pub use Rattle.rv_machine.specs.Machine
pub use Rattle.rv_machine.specs.Regions
pub use Rattle.rv_machine.specs.Run
pub use Rattle.rv_machine.specs.State
pub use Rattle.rv_machine.specs.ValidEntries
pub use Rattle.rv_machine.specs.declared.ending as declared_ending
pub use Rattle.rv_machine.specs.declared_access
pub use Rattle.rv_machine.specs.declared_faults
pub use Rattle.rv_machine.specs.declared_instruction
pub use Rattle.rv_machine.specs.declared_isa
pub use Rattle.rv_rows.specs.Counts
pub use Rattle.rv_rows.specs.Image
pub use Rattle.rv_rows.specs.IntermediateState
pub use Rattle.rv_rows.specs.Jobs
pub use Rattle.rv_rows.specs.Loading
pub use Rattle.rv_rows.specs.Outcome
pub use Rattle.rv_rows.specs.Plans
pub use Rattle.rv_rows.specs.Parsing
pub use Rattle.rv_rows.specs.Report
pub use Rattle.rv_rows.specs.RecentOutcomes
pub use Rattle.rv_rows.specs.Rows
pub use Rattle.rv_rows.specs.SymbolSearch
pub use Rattle.rv_rows.specs.SameResults
pub use Rattle.rv_rows.specs.declared.outcome as declared_outcome
pub use Rattle.rv_rows.specs.declared.complete_run as declared_partial_run
pub use Rattle.rv_rows.specs.declared_answers
pub use Rattle.rv_rows.specs.declared_elf_error
pub use Rattle.rv_rows.specs.declared_image
pub use Rattle.rv_rows.specs.declared_job
pub use Rattle.rv_rows.specs.declared_kept
pub use Rattle.rv_rows.specs.declared_row
pub use Rattle.rv_text.specs.Symbol
pub use Rattle.rv_text.specs.Numbers as TextWords
