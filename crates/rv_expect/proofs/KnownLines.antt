-- Lines are read one by one: the known jobs so far, and the first fault of those that are left.
use Rattle.std.proofs.Common.{◌≡◌, ◌∙◌, ◌+◌, ◌<◌, ◌≤◌, ◌++◌, ap, append-nil, arith, cond, drop, get_or, length, refl, sym, take, ℕ, List, [], ◌∷◌}
use Rattle.std.proofs.Common.{Bool, true, false, Err, Ok, Option, Some, None}
use Rattle.std.proofs.lemmas.List.{drop_all, drop_more, get_or-map, length-map, length-take-le, map-append, take_all, take_more}
use Rattle.std.proofs.lemmas.List.Elements.{filter-append}
use Rattle.std.specs.Borrow.{Bor}
use Rattle.std.specs.List.{filter, list_any}
use Rattle.std.specs.Prelude.{◌||◌, map}
use Rattle.rv_expect.specs.declared.known_jobs.KnownFault.{KnownFault}
use Rattle.rv_expect.specs.declared.known_jobs.KnownJob.{KnownJob}
use Rattle.rv_expect.specs.KnownJobs.{fault_of_line, first_fault, first_of, known_in, known_job_of_line, known_jobs_in, known_or_fault}
use Rattle.rv_expect.specs.KnownLines.{borrowed_lines, has_name}

abbrev now : Bor (List ℕ) → List ℕ
now line = line.now

-- the number of a line behind so many earlier ones
pub number_is : (lines : List (Bor (List ℕ))) (place : ℕ) → place < length lines →
    place + 1 ≡ length (take place (borrowed_lines lines)) + 1
number_is lines place below =
    ap (λ n. n + 1) (sym (length-take-le place (borrowed_lines lines) (omega (arith, below, length-map lines now))))

-- ---- a line more

module _ (lines : List (Bor (List ℕ))) (place : ℕ) (line : List ℕ) (d : Bor (List ℕ)) (below : place < length lines)
    (is : line ≡ (get_or lines place d).now) where
  abbrev texts : List (List ℕ)
  texts = borrowed_lines lines

  here : get_or texts place line ≡ line
  here = get_or-map now lines place d line below ∙ sym is

  within : place < length texts
  within = omega (arith, below, length-map lines now)

  pub one_more : take (place + 1) texts ≡ take place texts ++ line ∷ []
  one_more = take_more texts place line within ∙ ap (λ text. take place texts ++ text ∷ []) here

  one_left : drop place texts ≡ line ∷ drop (place + 1) texts
  one_left = drop_more texts place line within ∙ ap (λ text. text ∷ drop (place + 1) texts) here

  module _ (jobs : List (List ℕ)) (found : Option KnownFault) (is_first : found ≡ fault_of_line jobs (take place texts) line)
      (so_far : first_fault jobs (take place texts) (drop place texts) ≡ first_fault jobs [] texts) where
    -- the first fault from a line on is that of the line, or the first behind it
    fault_from : first_fault jobs [] texts
        ≡ first_of found (first_fault jobs (take (place + 1) texts) (drop (place + 1) texts))
    unfolding first_fault
    fault_from = sym so_far ∙ ap (first_fault jobs (take place texts)) one_left
        ∙ ap (λ earlier. first_of (fault_of_line jobs (take place texts) line)
        (first_fault jobs earlier (drop (place + 1) texts))) (sym one_more)
        ∙ ap (λ one. first_of one (first_fault jobs (take (place + 1) texts) (drop (place + 1) texts))) (sym is_first)

    pub refused : (fault : KnownFault) → found ≡ Some fault → Err fault ≡ known_jobs_in jobs texts
    refused fault some = ap (known_or_fault (known_in texts)) (sym (fault_from
        ∙ ap (λ one. first_of one (first_fault jobs (take (place + 1) texts) (drop (place + 1) texts))) some))

    pub passed_over : found ≡ None → first_fault jobs (take (place + 1) texts) (drop (place + 1) texts)
        ≡ first_fault jobs [] texts
    passed_over none = sym (fault_from
        ∙ ap (λ one. first_of one (first_fault jobs (take (place + 1) texts) (drop (place + 1) texts))) none)

-- ---- the known jobs of a line more

known_appended : (lines : List (List ℕ)) (line : List ℕ) →
    known_in (lines ++ line ∷ []) ≡ known_in lines ++ map known_job_of_line (cond (has_name line) (line ∷ []) [])
known_appended lines line = ap (map known_job_of_line) (filter-append has_name lines (line ∷ []))
    ∙ map-append known_job_of_line (filter has_name lines) (cond (has_name line) (line ∷ []) [])

pub known_with : (lines : List (List ℕ)) (line : List ℕ) → has_name line ≡ true →
    known_in (lines ++ line ∷ []) ≡ known_in lines ++ known_job_of_line line ∷ []
known_with lines line named = known_appended lines line
    ∙ ap (λ test. known_in lines ++ map known_job_of_line (cond test (line ∷ []) [])) named

pub known_without : (lines : List (List ℕ)) (line : List ℕ) → has_name line ≡ false →
    known_in (lines ++ line ∷ []) ≡ known_in lines
known_without lines line nameless = known_appended lines line
    ∙ ap (λ test. known_in lines ++ map known_job_of_line (cond test (line ∷ []) [])) nameless
    ∙ append-nil (known_in lines)

module _ (lines : List (Bor (List ℕ))) (place : ℕ) (line : List ℕ) (d : Bor (List ℕ)) (below : place < length lines)
    (is : line ≡ (get_or lines place d).now) (known next : List KnownJob)
    (so_far : known ≡ known_in (take place (borrowed_lines lines))) where
  one_line_more : known_in (take (place + 1) (borrowed_lines lines)) ≡ known_in (take place (borrowed_lines lines) ++ line ∷ [])
  one_line_more = ap known_in (one_more lines place line d below is)

  pub known_named : (job : KnownJob) → next ≡ known ++ job ∷ [] → job ≡ known_job_of_line line → has_name line ≡ true
      → next ≡ known_in (take (place + 1) (borrowed_lines lines))
  known_named job one_up made named = one_up ∙ (λ i. so_far i ++ made i ∷ [])
      ∙ sym (one_line_more ∙ known_with (take place (borrowed_lines lines)) line named)

  pub known_nameless : next ≡ known → has_name line ≡ false → next ≡ known_in (take (place + 1) (borrowed_lines lines))
  known_nameless same nameless = same ∙ so_far
      ∙ sym (one_line_more ∙ known_without (take place (borrowed_lines lines)) line nameless)

-- ---- all lines

pub all_read : (lines : List (Bor (List ℕ))) (place : ℕ) (jobs : List (List ℕ)) (known : List KnownJob) → length lines ≤ place
    → known ≡ known_in (take place (borrowed_lines lines))
    → first_fault jobs (take place (borrowed_lines lines)) (drop place (borrowed_lines lines))
    ≡ first_fault jobs [] (borrowed_lines lines)
    → Ok known ≡ known_jobs_in jobs (borrowed_lines lines)
unfolding first_fault
all_read lines place jobs known past are so_far =
    let texts = borrowed_lines lines in
    let over : length texts ≤ place = omega (arith, past, length-map lines now) in
    let none : None ≡ first_fault jobs [] texts =
    ap (first_fault jobs (take place texts)) (sym (drop_all place texts over)) ∙ so_far in
    ap Ok (are ∙ ap known_in (take_all place texts over)) ∙ ap (known_or_fault (known_in texts)) none

-- ---- names that are handed over

pub any_of_borrowed : (test : List ℕ → Bool) (names : List (Bor (List ℕ))) →
    list_any (λ name. test name.now) names ≡ list_any test (map now names)
any_of_borrowed test [] = refl
any_of_borrowed test (name ∷ names) = ap (λ rest. test name.now || rest) (any_of_borrowed test names)
