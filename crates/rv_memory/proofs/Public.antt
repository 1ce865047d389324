-- The lemmas that proofs of other crates may cite.
pub use Rattle.rv_memory.proofs.Apart.{covers_bounds}
pub use Rattle.rv_memory.proofs.Offsets.{among_addresses}
pub use Rattle.rv_memory.proofs.Tables.{among, get-tabulate, tabulate-insert, tabulate-same}
pub use Rattle.rv_memory.specs.Inside.Places.{is_covered}
pub use Rattle.rv_memory.specs.Inside.Codes.{contents_code}
