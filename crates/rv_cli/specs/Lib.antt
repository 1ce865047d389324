pub mod CommandBuilder
pub mod RvfleetCommand
pub mod RvfleetRequests
pub mod Values
pub use Rattle.rv_base.specs.Limits
