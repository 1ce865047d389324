-- How private fields represent regions and contents, and how the prover stores them. No contract of a public function uses any of this.
pub mod Codes
pub mod Places
pub mod Map
pub mod MapBack
pub mod View
pub mod Bus
