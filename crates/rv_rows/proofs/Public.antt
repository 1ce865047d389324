-- The lemmas that proofs of other crates may cite.
pub use Rattle.rv_machine.proofs.Public.{state_code}
pub use Rattle.rv_elf.proofs.Public.{entry_aligned, entry_even}
pub use Rattle.rv_report.proofs.Public.{places_more, same_reports}
