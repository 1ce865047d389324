-- The text of a list begins as no ELF file does.
use Rattle.std.proofs.Common.{◌≡◌, ◌==◌, ℕ, suc, Bool, true, false, arith, ◌&&◌, List, [], ◌∷◌, None, Ok, length, nat_eq, refl}
use Rattle.std.specs.Prelude.{if◌then◌else◌}
use Rattle.std.specs.List.{starts_with}
use Rattle.std.specs.Str.{is_utf8}
use Rattle.std.proofs.lemmas.Bool.{eqb-true}
use Rattle.toml.specs.Parse.{expression, key_equals, line, lines, parse_document, skip_bom}
use Rattle.toml_parser.specs.Lexical.{skip_from}
use Rattle.toml_parser.specs.Strings.{key_after, simple_key}
use Rattle.rv_rows.specs.JobList.{job_list_of, jobs_of_document}
use Rattle.rv_rows.specs.declared_job.Job.{Job}
use Rattle.rv_accept_text.specs.GoldenFiles.{elf_magic}

not_empty : (n : ℕ) → (suc n == 0) ≡ false
not_empty n = go (suc n == 0) refl
  where
    go : (is_none : Bool) → (suc n == 0) ≡ is_none → (suc n == 0) ≡ false
    go false is = is
    go true is = absurd (omega (arith, eqb-true (suc n) 0 is))

-- no document begins with the control character DEL
no_document : (rest : List ℕ) → parse_document (0x7f ∷ rest) ≡ None
unfolding parse_document lines line expression key_equals key_after simple_key skip_bom skip_from
no_document rest = rw (not_empty (length rest)) refl

no_list : (rest : List ℕ) (jobs : List Job) → job_list_of (0x7f ∷ rest) ≡ Ok jobs → {A : Type 0} → A
unfolding job_list_of jobs_of_document
no_list rest jobs is = go (is_utf8 (0x7f ∷ rest)) (rw (no_document rest) at is)
  where
    go : (utf8 : Bool) → jobs_of_document (if utf8 then None else None) ≡ Ok jobs → {A : Type 0} → A
    go true is = cc
    go false is = cc

first_of : (a b : Bool) → (a && b) ≡ true → a ≡ true
first_of true b is = refl
first_of false b is = cc

pub list_is_no_image : (bytes : List ℕ) (jobs : List Job) → job_list_of bytes ≡ Ok jobs
    → starts_with nat_eq bytes elf_magic ≡ false
list_is_no_image [] jobs is = refl
list_is_no_image (first ∷ rest) jobs is = go (starts_with nat_eq (first ∷ rest) elf_magic) refl
  where
    go : (starts : Bool) → starts_with nat_eq (first ∷ rest) elf_magic ≡ starts
        → starts_with nat_eq (first ∷ rest) elf_magic ≡ false
    go false was = was
    go true was =
        let same : 0x7f ≡ first = eqb-true 0x7f first (first_of (nat_eq 0x7f first) _ was) in
        no_list rest jobs (rw (← same) at is)
