-- What other crates' proofs need.
pub use Rattle.rv_accept_text.proofs.KeptRuns.{accepted_from_the_first}
pub use Rattle.rv_accept_text.proofs.ListIsNoImage.{list_is_no_image}
