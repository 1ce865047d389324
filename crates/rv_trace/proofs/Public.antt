-- The lemmas that proofs of other crates may cite.
pub use Rattle.rv_trace.proofs.Fetched.{code_is_fetched}
pub use Rattle.rv_trace.proofs.Runs.{after_first, after_more, after_none, completes, each_completes, same_end, steps_first, steps_more, steps_none}
pub use Rattle.rv_machine.proofs.Public.{byte_loaded, effect_even, fetched_steady, half_loaded, ok_is, state_code, word_loaded}
pub use Rattle.rv_rows.proofs.Public.{entry_aligned, entry_even}
