-- What other crates may cite of the proofs of this one.
pub use Rattle.rv_diff.proofs.Names.{drop-row, now}
pub use Rattle.rv_diff.proofs.OneMore.{text_all, text_more}
