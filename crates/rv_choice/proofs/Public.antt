-- What other crates may cite of the proofs of this one.
pub use Rattle.rv_choice.proofs.Counted.{choice_count}
