-- The numbers of jobs at places that rise.
use Rattle.std.proofs.Common.{◌≡◌, ◌+◌, ◌<◌, ◌≤◌, ℕ, zero, suc, true, List, [], ◌∷◌, length}
use Rattle.std.proofs.Common.{get_or, nat_lt, nat_le, refl, arith, subst}
use Rattle.std.proofs.lemmas.Bool.{and_from}
use Rattle.std.proofs.lemmas.Bool.Decides.{nat_tests}
use Rattle.std.specs.List.{All}
use Rattle.std.specs.List.Sorted.{IsStrictlyIncreasing}
use Rattle.rv_files.specs.Limits.{max_jobs}
use Rattle.rv_rows.specs.Saved.{are_increasing}
use Rattle.rvtest_app.specs.RunOutput.{job_numbers}

pub behind : (p : ℕ) (ps : List ℕ) → IsStrictlyIncreasing (p ∷ ps) → IsStrictlyIncreasing ps
behind p ps up k inside =
    let at : suc k + 1 ≡ suc (k + 1) = omega arith in
    subst (λ n. get_or ps k 0 < get_or (p ∷ ps) n 0) at (up (suc k) (omega arith))

pub next : (p : ℕ) (ps : List ℕ) → IsStrictlyIncreasing (p ∷ ps) → 0 < length ps → p < get_or ps 0 0
next p ps up some =
    let at : zero + 1 ≡ suc zero = omega arith in
    subst (λ n. p < get_or (p ∷ ps) n 0) at (up zero (omega arith))

rising_behind : (before last : ℕ) (indices : List ℕ) → IsStrictlyIncreasing indices
    → All (λ index. index < last) indices → (0 < length indices → before ≤ get_or indices 0 0)
    → are_increasing before last (job_numbers indices) ≡ true
unfolding are_increasing
rising_behind before last [] up within low = refl
rising_behind before last (p ∷ ps) up within low =
    let first : before ≤ p = low (omega arith) in
    let below : p < last = within 0 0 (omega arith) in
    let a : nat_lt before (p + 1) ≡ true = grind (arith, nat_tests) in
    let b : nat_le (p + 1) last ≡ true = grind (arith, nat_tests) in
    and_from _ _ a (and_from _ _ b (rising_behind (p + 1) last ps (behind p ps up)
    (λ k d inside. within (suc k) d (omega arith)) (λ some. let n = next p ps up some in omega arith)))

-- rising places from one on, below the last, are no more than are left
pub fit_behind : (index last : ℕ) (indices : List ℕ) → IsStrictlyIncreasing indices → All (λ index. index < last) indices
    → index ≤ last → (0 < length indices → index ≤ get_or indices 0 0) → index + length indices ≤ last
fit_behind index last [] up within room low = omega (arith, room)
fit_behind index last (p ∷ ps) up within room low =
    let first : index ≤ p = low (omega arith) in
    let below : p < last = within 0 0 (omega arith) in
    let rest : (p + 1) + length ps ≤ last = fit_behind (p + 1) last ps (behind p ps up)
    (λ k d inside. within (suc k) d (omega arith)) (omega (arith, below))
    (λ some. let n = next p ps up some in omega arith) in
    omega (arith, first, rest)

-- places of so many jobs that rise have numbers that rise, up to the greatest of a list
pub rising_numbers : (indices : List ℕ) (jobs : ℕ) → jobs ≤ max_jobs → IsStrictlyIncreasing indices
    → All (λ index. index < jobs) indices → are_increasing 0 max_jobs (job_numbers indices) ≡ true
rising_numbers indices jobs few up within = rising_behind 0 max_jobs indices up
    (λ k d inside. let w = within k d inside in omega arith) (λ some. omega arith)
