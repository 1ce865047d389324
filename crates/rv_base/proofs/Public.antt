-- What other crates may cite of the proofs of this one.
pub use Rattle.rv_base.proofs.Outgoing.{beginning_of_longer, ended_under_way, failed_under_way, more_under_way}
pub use Rattle.rv_base.proofs.Outgoing.{nothing_under_way, stopped_under_way}
pub use Rattle.rv_base.proofs.Places.{bytes_eq-flip, no_places, none_placed, place_below, place_last, places_back}
pub use Rattle.rv_base.proofs.Places.{places_more, texts_more}
