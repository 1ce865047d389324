pub mod Trees
pub mod Sums
pub mod Profiles
pub mod Subtrees
pub use Rattle.rv_base.specs.Limits
