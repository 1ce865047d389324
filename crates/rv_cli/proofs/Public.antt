-- What other crates may cite of the proofs of this one.
pub use Rattle.rv_cli.proofs.Asking.{taken_asks}
pub use Rattle.rv_cli.proofs.Commands.{its_app}
