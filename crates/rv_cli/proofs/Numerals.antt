-- What the typed getter of a number gives, by the rows.
use Rattle.std.proofs.Common.{◌≡◌, ◌∙◌, ◌<◌, ◌^◌, ℕ, Bool, true, false, refl, ap, List, [], ◌∷◌, Option, Some, None}
use Rattle.std.proofs.Common.{Result, Ok, Err, nat_lt, option_and_then, lt-ltb, ltb-true, cond, ◌&&◌}
use Rattle.std.specs.List.{list_all}
use Rattle.std.specs.Char.{digit_value}
use Rattle.std.specs.Str.Parse.{AllDigits, IsNumeral, ParsesUnsigned, digits_value, without_leading_plus}
use Rattle.clap.specs.ValueTests.{is_numeral}
use Rattle.clap.specs.Matches.{ReadsOne, one_text}
use Rattle.clap.specs.Walk.{Text, rows_of}
use Rattle.clap.specs.declared.parser.matches.Found.{Found}
use Rattle.clap.proofs.WalkLemmas.{one_text-rows, both}
use Rattle.rv_cli.specs.Values.{parsed_number_value, parsed_decimal}

digits_from : (ds : List ℕ) → list_all (λ d. nat_lt (digit_value d) 10) ds ≡ true → AllDigits 10 ds
digits_from [] e = tt
digits_from (d ∷ ds) e =
    let parts = both _ _ e in
    (ltb-true _ _ parts.0, digits_from ds parts.1)

digits_back : (ds : List ℕ) → AllDigits 10 ds → list_all (λ d. nat_lt (digit_value d) 10) ds ≡ true
digits_back [] h = refl
digits_back (d ∷ ds) h = rw (lt-ltb (digit_value d) 10 h.0) (digits_back ds h.1)

pub test_holds : (ds : List ℕ) → IsNumeral 10 ds → digits_value 10 ds < 2 ^ 32
    → (is_numeral ds && nat_lt (digits_value 10 ds) (2 ^ 32)) ≡ true
test_holds ds h lt = rw (lt-ltb _ _ h.0, digits_back ds h.1, lt-ltb _ _ lt) refl

pub test_gives : (ds : List ℕ) → (is_numeral ds && nat_lt (digits_value 10 ds) (2 ^ 32)) ≡ true
    → IsNumeral 10 ds × (digits_value 10 ds < 2 ^ 32)
test_gives ds e =
    let a = both _ _ e in
    let n = both _ _ a.0 in
    ((ltb-true _ _ n.0, digits_from ds n.1), ltb-true _ _ a.1)

-- the option that a result of `parse` becomes
pub parsed : {E : Type 0} (t : Text) (r : Option ℕ) (G : List ℕ → Result ℕ E → Type 0) → ReadsOne G t r
    → ((x : Result ℕ E) → G t x → ParsesUnsigned 32 10 t x) → r ≡ parsed_decimal t
parsed {E} t (Some v) G read only =
    let p = only (Ok v) read in
    let b = test_holds (without_leading_plus t) p.0.0 p.0.1 in
    rw b (ap Some p.1)
parsed {E} t None G read only =
    go (is_numeral (without_leading_plus t) && nat_lt (digits_value 10 (without_leading_plus t)) (2 ^ 32)) refl
  where
    go : (b : Bool) → (is_numeral (without_leading_plus t) && nat_lt (digits_value 10 (without_leading_plus t))
        (2 ^ 32)) ≡ b
        → None ≡ cond b (Some (digits_value 10 (without_leading_plus t))) None
    go true e = absurd (only (Err read.0) read.1 (test_gives (without_leading_plus t) e))
    go false e = refl

pub number_reads : {E : Type 0} (G : List ℕ → Result ℕ E → Type 0) (f : Found) (id : Text) (r : Option ℕ)
    → (one_text f id ≡ None → r ≡ None) → ((t : List ℕ) → one_text f id ≡ Some t → ReadsOne G t r)
    → ((t : List ℕ) (x : Result ℕ E) → G t x → ParsesUnsigned 32 10 t x) → r ≡ parsed_number_value id (rows_of f)
number_reads {E} G f id r none some only = go (one_text f id) refl ∙ ap (option_and_then parsed_decimal) (one_text-rows f id)
  where
    go : (o : Option Text) → one_text f id ≡ o → r ≡ option_and_then parsed_decimal (one_text f id)
    go None e = rw e (none e)
    go (Some t) e = rw e (parsed t r G (some t e) (only t))
