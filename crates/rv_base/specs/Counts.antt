-- Counters of failures.
use Rattle.std.specs.Prelude.{◌+◌, ◌-◌, ◌^◌, ◌≤◌, ℕ, min}

-- the count `n` plus one, or 2^64 - 1 if `n` is already 2^64 - 1
abbrev pub one_more : ℕ → ℕ
one_more n = min (n + 1) (2 ^ 64 - 1)

-- the counter has increased from `old` to `new` by at least one, or stayed at its maximum, 2^64 - 1
abbrev pub HasIncreased : ℕ → ℕ → Type 0
HasIncreased old new = one_more old ≤ new
