-- The output of a run.
use Rattle.std.specs.Prelude.{ℕ, List, ◌++◌, ◌≡◌}

-- the text `text` begins with the text `prefix`
pub record BeginsWith (text prefix : List ℕ) : Type 0 where
  pub rest : List ℕ
  pub text_is : text ≡ prefix ++ rest
