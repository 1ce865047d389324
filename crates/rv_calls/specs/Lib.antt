pub mod Stack
pub mod Calls
pub mod CallsLine
pub use Rattle.rv_trace.specs.Rows
pub use Rattle.rv_trace.specs.Text
pub use Rattle.rv_trace.specs.Trace
pub use Rattle.rv_trace.specs.declared.trace as declared_trace
