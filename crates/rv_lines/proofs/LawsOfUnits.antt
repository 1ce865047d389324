-- The bytes of a unit do not depend on those after it.
use Rattle.std.proofs.Common.{◌≡◌, ◌∙◌, ◌≤◌, ◌+◌, ◌==◌, ℕ, cond, List, [], ◌∷◌, ◌++◌, length, take, drop, nat_lt, nat_le, Result, Ok, Err, refl, sym, ap, arith}
use Rattle.std.proofs.lemmas.Bool.{le-ltb}
use Rattle.std.proofs.lemmas.List.{take-append-le}
use Rattle.rv_lines.specs.declared.error.UnitError.{UnitError}
use Rattle.rv_lines.specs.declared.error.UnitError.TheVariants.{UnitCutOff, Dwarf64, ReservedLength}
use Rattle.rv_lines.specs.Reading.{◌>>=◌}
use Rattle.rv_lines.specs.Entries.{Strings}
use Rattle.rv_lines.specs.Units.{unit_length, unit_bytes, unit_rows, rows_at}

-- the bytes of a unit that is whole, by its length
abbrev whole : ℕ → List ℕ → Result (List ℕ) UnitError
whole n rest = cond (n == 0xffff_ffff) (Err Dwarf64) (cond (nat_le 0xffff_fff0 n) (Err ReservedLength) (Ok (take n rest)))

whole_unit : (n : ℕ) (bytes : List ℕ) → unit_length bytes ≡ n → 4 + n ≤ length bytes → unit_bytes bytes ≡ whole n (drop 4 bytes)
unfolding unit_bytes
whole_unit n bytes e le =
    let four : 4 ≤ length bytes = omega arith in
    ap (λ b. cond {A = Result (List ℕ) UnitError} b (Err UnitCutOff) (cond (unit_length bytes == 0xffff_ffff) (Err Dwarf64) (cond (nat_le 0xffff_fff0 (unit_length bytes)) (Err ReservedLength) (cond (nat_lt (length bytes) (4 + unit_length bytes)) (Err UnitCutOff) (Ok (take (unit_length bytes) (drop 4 bytes))))))) (le-ltb (length bytes) 4 four)
    ∙ ap (λ m. cond {A = Result (List ℕ) UnitError} (m == 0xffff_ffff) (Err Dwarf64) (cond (nat_le 0xffff_fff0 m) (Err ReservedLength) (cond (nat_lt (length bytes) (4 + m)) (Err UnitCutOff) (Ok (take m (drop 4 bytes)))))) e
    ∙ ap (λ b. cond {A = Result (List ℕ) UnitError} (n == 0xffff_ffff) (Err Dwarf64) (cond (nat_le 0xffff_fff0 n) (Err ReservedLength) (cond b (Err UnitCutOff) (Ok (take n (drop 4 bytes)))))) (le-ltb (length bytes) (4 + n) le)

longer : (xs ys : List ℕ) → length xs ≤ length (xs ++ ys)
longer [] ys = omega arith
longer (x ∷ xs) ys = let h = longer xs ys in omega arith

unit_alone : (unit more : List ℕ) → 4 + unit_length unit ≡ length unit → unit_bytes (unit ++ more) ≡ unit_bytes unit
unit_alone [] more e = absurd (omega arith)
unit_alone (a ∷ []) more e = absurd (omega arith)
unit_alone (a ∷ b ∷ []) more e = absurd (omega arith)
unit_alone (a ∷ b ∷ c ∷ []) more e = absurd (omega arith)
unit_alone (a ∷ b ∷ c ∷ d ∷ rest) more e =
    let unit = a ∷ b ∷ c ∷ d ∷ rest in
    let n = unit_length unit in
    let h = longer rest more in
    let size : n ≤ length rest = omega arith in
    let within : 4 + n ≤ length unit = omega arith in
    let within_more : 4 + n ≤ length (unit ++ more) = omega arith in
    whole_unit n (unit ++ more) refl within_more
    ∙ ap (λ bytes. cond {A = Result (List ℕ) UnitError} (n == 0xffff_ffff) (Err Dwarf64) (cond (nat_le 0xffff_fff0 n) (Err ReservedLength) (Ok bytes))) (take-append-le n rest more size)
    ∙ sym (whole_unit n unit refl within)

pub rows_alone : (strings : Strings) (unit more : List ℕ) → 4 + unit_length unit ≡ length unit → rows_at strings (unit ++ more) ≡ rows_at strings unit
rows_alone strings unit more e = ap (λ read. read >>= unit_rows strings) (unit_alone unit more e)
