pub mod Results
pub use Rattle.rv_claims.specs.Draws
pub use Rattle.rv_claims.specs.NewPieces
pub use Rattle.rv_claims.specs.Passes
