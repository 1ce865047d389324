-- The lemmas that proofs of other crates may cite.
pub use Rattle.rv_stream.proofs.Received.{seen_none, seen_texts, reported_texts}
pub use Rattle.rv_stream.proofs.Tellings.{told_behind, told_none, told_rest}
pub use Rattle.rv_counting.proofs.Public.{rows_count}
pub use Rattle.rv_base.proofs.Public.{beginning_of_longer, ended_under_way, failed_under_way, more_under_way, nothing_under_way, stopped_under_way}
