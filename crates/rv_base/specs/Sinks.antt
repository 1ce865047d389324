-- The bytes that a sink has accepted; `None` if the sink does not reveal them.
use Rattle.std.specs.Prelude.{◌≡◌, ℕ, List, ◌++◌, Option}
use Rattle.std.specs.Io.KnownBytes.{Appends}

-- a prefix `part` of the text was appended to the bytes of a sink, which changed from `old` to `new`
pub record AppendsPrefix (old new : Option (List ℕ)) (text : List ℕ) : Type 0 where
  pub part : List ℕ
  pub rest : List ℕ
  pub whole : text ≡ part ++ rest
  pub appended : Appends old new part

-- a prefix `sent` of the text was appended to the bytes of a sink, which changed from `old` to `new`, and the rest of the text is in the
-- buffer `buffered`
pub record IsPartlyWritten (old new : Option (List ℕ)) (buffered text : List ℕ) : Type 0 where
  pub sent : List ℕ
  pub appended : Appends old new sent
  pub whole : text ≡ sent ++ buffered
