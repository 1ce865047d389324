-- What other crates may cite of the proofs of this one.
pub use Rattle.rv_report.proofs.Loops.{above, numbered_more, numbered_split}
pub use Rattle.rv_report.proofs.Cut.{said_can_be, few_cut, cut_made, good_view}
pub use Rattle.rv_report.proofs.Reports.{says_itself, same_reports}
pub use Rattle.rv_report.proofs.Wholes.{whole_text}
pub use Rattle.rv_base.proofs.Public.{places_more}
