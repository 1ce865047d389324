-- What other crates' proofs need.
pub use Rattle.rv_accept.proofs.AcceptedRuns.{IsAccepted, accepted_at, meant_at, row_at_place}
pub use Rattle.rv_accept.proofs.Agreement.{agreed, unclaimed}
pub use Rattle.rv_accept.proofs.ClaimedFiles.{console_claim_among, console_is_target, signature_claim_among, signature_is_target, targets_have_fates}
pub use Rattle.rv_accept.proofs.Elements.{all_left, all_right}
pub use Rattle.rv_accept.proofs.GoldenPaths.{targets_are_of_jobs}
pub use Rattle.rv_accept.proofs.MarkCounts.{marks_count}
pub use Rattle.rv_accept.proofs.ImagesThatRan.{image_that_ran, RanOver, ran_over}
pub use Rattle.rv_accept.proofs.OverFiles.{console_path_stays, outcome_of_its_row, passes_over_files}
