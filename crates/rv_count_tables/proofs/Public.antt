-- The lemmas that proofs of other crates may cite.
pub use Rattle.rv_count_tables.proofs.Paths.{any_first, either, none_behind, none_before_itself, not_before_back, not_before_less, same_place}
pub use Rattle.rv_count_tables.proofs.AddingImages.{no_images_rise}
pub use Rattle.rv_count_tables.proofs.ToldImages.{one_table_of}
pub use Rattle.rv_count_tables.proofs.NamesOfSpots.{are_more, first_is, last_of_more, name_with, not_named}
pub use Rattle.rv_call_tree.proofs.Public.{last_parts, stand_of_parts}
