-- The lemmas that proofs of other crates may cite.
pub use Rattle.rv_claims.proofs.Public.{above, falls, grew_more, made_all, made_one, took_some}
