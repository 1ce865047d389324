-- The first element that passes a test, or the end of the list.
use Rattle.std.proofs.Common.{◌≡◌, sym, refl, ℕ, List, Bool, true, false, cond, length, arith, Some, None}
use Rattle.std.specs.List.{position, position_or_len}
use Rattle.std.specs.Prelude.{nat_lt, not}
use Rattle.std.proofs.lemmas.Bool.{ltb-false}
use Rattle.std.proofs.lemmas.List.Sums.{prefix_len-le-length}
use Rattle.std.proofs.lemmas.Option.{none-some}

nowhere : (test : Bool) (place : ℕ) → cond test (Some place) None ≡ None → test ≡ false
nowhere true place is = absurd (none-some place (sym is))
nowhere false place is = refl

pub none_is_end : {X : Type 0} (p : X → Bool) (xs : List X) → position p xs ≡ None → length xs ≡ position_or_len p xs
none_is_end p xs none =
    let past = ltb-false (position_or_len p xs) (length xs)
    (nowhere (nat_lt (position_or_len p xs) (length xs)) (position_or_len p xs) none) in
    omega (arith, past, prefix_len-le-length (λ x. not (p x)) xs)
