-- The lemmas that proofs of other crates may cite.
pub use Rattle.rv_base.proofs.Public.{no_places, place_below, place_last, places_back, places_more}
