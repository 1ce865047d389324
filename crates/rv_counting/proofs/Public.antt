-- The lemmas that proofs of other crates may cite.
pub use Rattle.rv_counting.proofs.Adding.{all_counted, sum_added, sum_refused, NextRefused}
pub use Rattle.rv_counting.proofs.Blocks.{reaches, Reaches}
pub use Rattle.rv_counting.proofs.Counters.{counted_all, ready}
pub use Rattle.rv_counting.proofs.Evens.{counts_even}
pub use Rattle.rv_counting.proofs.Ends.{begun_is, completed_begins, ended_begins}
pub use Rattle.rv_counting.proofs.Runs.{ended_early, steps_within}
pub use Rattle.rv_counting.proofs.ImagePieces.{piece_few, piece_indices, piece_some}
pub use Rattle.rv_counting.proofs.OfJobs.{first_path-append, no_counts_is_table, no_names, no_owners, no_spots, none_either, none_if_no_ok, not_ok_if_none, not_over, one_rises, over, picked_begun, picked_path, picked_taken}
pub use Rattle.rv_counting.proofs.Orders.{first_moved}
pub use Rattle.rv_counting.proofs.Parted.{all_parts, joined_parts}
pub use Rattle.rv_counting.proofs.Starts.{no_bytes, no_image, start_even}
pub use Rattle.rv_fleet.proofs.Public.{rows_count}
pub use Rattle.rv_trace.proofs.Public.{after_none, code_is_fetched, each_completes}
