-- Parsing steps that may fail, each run only if the earlier ones succeeded.
use Rattle.std.specs.Prelude.{◌≡◌, ℕ, Bool, if◌then◌else◌, List, ◌++◌, Option, Some, None, Result}
use Rattle.std.specs.Prelude.{Ok, Err, MatchResult}
use Rattle.rv_lists.specs.declared.error.What.{What}
use Rattle.rv_lists.specs.declared.error.What.TheVariants.{OutOfMemory}
use Rattle.rv_lists.specs.declared.error.JobError.{JobError}

-- the second step, if the first succeeded
infixl 10 ◌>>=◌
-- the result of `f` for the value of the first step, or the error of the first step
abbrev pub ◌>>=◌ : {F A B : Type 0} → Result A F → (A → Result B F) → Result B F
(Ok x) >>= f = f x
(Err e) >>= f = Err e

-- the error `fault` if the condition is true, or else success
abbrev pub fault_if : Bool → What → Result (Unit {0}) What
fault_if b fault = if b then Err fault else Ok tt

-- the value if it exists and satisfies `p`, or else the error `fault`
abbrev pub valid_value : {X : Type 0} → (X → Bool) → What → Option X → Result X What
valid_value p fault None = Err fault
valid_value p fault (Some x) = if p x then Ok x else Err fault

-- the result of `f` for the value, or the default `y` if the value is missing
abbrev pub parsed_or_default : {X Y : Type 0} → (X → Result Y What) → Y → Option X → Result Y What
parsed_or_default f y None = Ok y
parsed_or_default f y (Some x) = f x

-- the value, or the error with the number `n` of its job
abbrev pub with_job_number : {A : Type 0} → ℕ → Result A What → Result A JobError
with_job_number n (Ok x) = Ok x
with_job_number n (Err w) = Err (record { job = n; what = w })

-- the list with the elements `front` prepended, or the error
abbrev pub with_prefix : {F A : Type 0} → List A → Result (List A) F → Result (List A) F
with_prefix front (Ok xs) = Ok (front ++ xs)
with_prefix front (Err e) = Err e

-- `result` is the specified result `expected`, or memory ran out
abbrev pub MatchesUnlessOutOfMemory : {X : Type 0} → Result X What → Result X What → Type 0
MatchesUnlessOutOfMemory result expected = MatchResult result (λ x. expected ≡ Ok x) (λ e. (e ≡ OutOfMemory → ⊥) → expected ≡ Err e)

-- `result` is the specified result `expected`, whose errors have the number of their job, or memory ran out
abbrev pub MatchesJobsUnlessOutOfMemory : {X : Type 0} → Result X JobError → Result X JobError → Type 0
MatchesJobsUnlessOutOfMemory result expected = MatchResult result (λ x. expected ≡ Ok x) (λ e. (e.what ≡ OutOfMemory → ⊥) → expected ≡ Err e)
