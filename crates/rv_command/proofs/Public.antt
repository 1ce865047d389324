-- What other crates may cite of the proofs of this one.
pub use Rattle.rv_command.proofs.Told.{told_stop}
