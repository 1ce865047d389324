-- Texts that are appended one behind the other.
use Rattle.std.proofs.Common.{◌≡◌, ◌∙◌, ◌++◌, ℕ, List, Ok, Err, append_assoc}
use Rattle.std.specs.Prelude.{OnOk, Result}

-- a text went behind another
pub one_behind : {X Y : Type 0} (r : Result X Y) (old middle new first second : List ℕ) → middle ≡ old ++ first
    → OnOk r (new ≡ middle ++ second) → OnOk r (new ≡ old ++ (first ++ second))
one_behind (Ok x) old middle new first second before put =
    put ∙ rw before (append_assoc old first second)
one_behind (Err e) old middle new first second before put = tt
