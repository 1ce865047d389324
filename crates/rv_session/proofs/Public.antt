-- The lemmas that proofs of other crates may cite.
pub use Rattle.rv_session.proofs.Breaking.{worked_more, worked_unasked}
pub use Rattle.rv_session.proofs.Cuts.{fed_both, fed_byte, fed_move}
pub use Rattle.rv_session.proofs.Determined.{fed_one}
pub use Rattle.rv_session.proofs.Same.{byte_same, same_run, same_run_on, worked_same}
pub use Rattle.rv_history.proofs.Public.{state_code}
