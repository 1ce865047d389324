-- The lemmas that proofs of other crates may cite.
pub use Rattle.rv_isa.proofs.HalfwordRows.{meaning16_means}
pub use Rattle.rv_isa.proofs.Narrower.{meaning16_wider, meaning32_wider}
pub use Rattle.rv_isa.proofs.Tables.{all_at}
pub use Rattle.rv_isa.proofs.WordRows.{meaning32_means}
