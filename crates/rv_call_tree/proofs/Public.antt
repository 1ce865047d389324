-- The lemmas that proofs of other crates may cite.
pub use Rattle.rv_call_tree.proofs.Parts.{last_parts, stand_of_parts}
pub use Rattle.rv_call_tree.proofs.Unique.{one_tree_of_counts}
