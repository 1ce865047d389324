-- Numbers that are skipped one after the other, as a loop does.
use Rattle.std.proofs.Common.{◌≡◌, ◌∙◌, ◌<◌, ◌≤◌, ◌+◌, ◌-◌, ℕ, suc, List, Result, Ok, Err, refl, sym, ap, arith}
use Rattle.rv_lines.specs.declared.error.UnitError.{UnitError}
use Rattle.rv_lines.specs.Reading.{◌>>=◌}
use Rattle.rv_lines.specs.Numbers.{skip_number, skip_numbers}

pub skip_one : (cut : UnitError) (count k : ℕ) (rest : List ℕ) → k < count → skip_numbers cut (count - k) rest ≡ (skip_number cut rest >>= skip_numbers cut (count - (k + 1)))
unfolding skip_numbers
skip_one cut count k rest lt = let e : count - k ≡ suc (count - (k + 1)) = omega arith in rw e refl

pub skip_on : (cut : UnitError) (count k : ℕ) (rest next : List ℕ) (total : Result (List ℕ) UnitError) → k < count
    → skip_number cut rest ≡ Ok next → skip_numbers cut (count - k) rest ≡ total → skip_numbers cut (count - (k + 1)) next ≡ total
skip_on cut count k rest next total lt h so_far =
    sym (skip_one cut count k rest lt ∙ ap (λ r. r >>= skip_numbers cut (count - (k + 1))) h) ∙ so_far

pub skip_ends : (cut e : UnitError) (count k : ℕ) (rest : List ℕ) (total : Result (List ℕ) UnitError) → k < count
    → skip_number cut rest ≡ Err e → skip_numbers cut (count - k) rest ≡ total → total ≡ Err e
skip_ends cut e count k rest total lt h so_far =
    sym so_far ∙ skip_one cut count k rest lt ∙ ap (λ r. r >>= skip_numbers cut (count - (k + 1))) h

pub skip_done : (cut : UnitError) (count k : ℕ) (rest : List ℕ) (total : Result (List ℕ) UnitError) → count ≤ k
    → skip_numbers cut (count - k) rest ≡ total → total ≡ Ok rest
unfolding skip_numbers
skip_done cut count k rest total le so_far = let e : count - k ≡ 0 = omega arith in sym so_far ∙ rw e refl
