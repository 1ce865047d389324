-- A run has one start, or none.
use Rattle.std.proofs.Common.{◌≡◌, Result, Ok, Err}

pub one_start : {A E : Type 0} (r : Result A E) (x y : A) → r ≡ Ok x → r ≡ Ok y → x ≡ y
one_start r x y e f = cc

pub no_start : {A E : Type 0} (r : Result A E) (x : A) (why : E) → r ≡ Ok x → r ≡ Err why → ⊥
no_start r x why e f = cc
