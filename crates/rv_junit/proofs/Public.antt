-- The lemmas that proofs of other crates may cite.
pub use Rattle.rv_junit.proofs.KnownLines.{kept_known}
