-- The lemmas that proofs of other crates may cite.
pub use Rattle.rv_history.proofs.Determined.{one_first_with, one_next_step, one_next_stop, one_step_before, one_stop_before}
pub use Rattle.rv_history.proofs.Printing.{printed_stays}
pub use Rattle.rv_trace.proofs.Public.{completes, state_code}
