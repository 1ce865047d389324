-- The names of jobs, told one after the other.
use Rattle.std.proofs.Common.{◌≡◌, ◌∙◌, ◌<◌, ◌+◌, ℕ, List, [], ◌∷◌, ◌++◌, add-zero, ap, append_assoc, arith, get_or, length, sym, take}
use Rattle.std.proofs.lemmas.List.{append-nil, length-take-le, take_more}
use Rattle.rv_expect.specs.declared_job.Job.{Job}
use Rattle.rv_choice.specs.UnknownName.{names_from, text_before_name}

-- one name more behind those of some jobs
names_append : (at count : ℕ) (jobs : List Job) (job : Job) → names_from at count (jobs ++ job ∷ [])
    ≡ names_from at count jobs ++ (text_before_name (at + length jobs) count ++ job.name)
unfolding names_from
names_append at count [] job = simp (append-nil, add-zero)
names_append at count (other ∷ jobs) job =
    let first : List ℕ = text_before_name at count ++ other.name in
    let places : (at + 1) + length jobs ≡ at + length (other ∷ jobs) = omega arith in
    ap (λ names. first ++ names) (names_append (at + 1) count jobs job)
    ∙ (sym (append_assoc first (names_from (at + 1) count jobs) _)
    ∙ ap (λ place. (first ++ names_from (at + 1) count jobs) ++ (text_before_name place count ++ job.name)) places)

-- the same of the jobs before a place and the one there
pub names_more : (count : ℕ) (jobs : List Job) (place : ℕ) (job : Job) → place < length jobs → get_or jobs place job ≡ job
    → names_from 0 count (take (place + 1) jobs)
    ≡ names_from 0 count (take place jobs) ++ (text_before_name place count ++ job.name)
names_more count jobs place job within is =
    let shown : 0 + length (take place jobs) ≡ place = omega (arith, length-take-le place jobs (omega arith)) in
    ap (names_from 0 count) (take_more jobs place job within ∙ ap (λ (j : Job). take place jobs ++ j ∷ []) is)
    ∙ (names_append 0 count (take place jobs) job
    ∙ ap (λ at. names_from 0 count (take place jobs) ++ (text_before_name at count ++ job.name)) shown)
