-- The lemmas that proofs of other crates may cite.
pub use Rattle.rv_fleet.proofs.Choosing.{rising_few}
pub use Rattle.rv_fleet.proofs.Chunks.{chunk_inside, chunk_more}
pub use Rattle.rv_fleet.proofs.Collects.{rows_count}
