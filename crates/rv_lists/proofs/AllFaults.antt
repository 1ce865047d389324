-- All faults of a list: the first of them, and one element after another.
use Rattle.std.proofs.Common.{◌≡◌, ◌∙◌, ◌+◌, ◌<◌, ◌≤◌, ℕ, List, [], ◌∷◌, ◌++◌, Option, Some, None, Result, Ok, Err}
use Rattle.std.proofs.Common.{refl, ap, length, get_or, drop, append_assoc, append-nil, drop_of_length-le}
use Rattle.std.proofs.lemmas.List.{map-append}
use Rattle.std.specs.Prelude.{IfOk, slice_get, is_some}
use Rattle.std.specs.Result.{result_err}
use Rattle.toml.specs.Data.{Data, Items, no_items, item, Members, table}
use Rattle.toml.specs.declared.value.Value.{Value}
use Rattle.toml.specs.View.{view, items_view}
use Rattle.toml.proofs.Views.{items_view-drop}
use Rattle.rv_lists.specs.declared.error.What.{What}
use Rattle.rv_lists.specs.declared.error.What.TheVariants as what
use Rattle.rv_lists.specs.declared.error.JobError.{JobError}
use Rattle.rv_lists.specs.declared.job.Job.{Job}
use Rattle.rv_lists.specs.Keys.{has_unknown_job_or_region_key, has_wrong_type}
use Rattle.rv_lists.specs.Parsing.{◌>>=◌, fault_if, with_job_number}
use Rattle.rv_lists.specs.JobList.{job_from_table, name_from_table, image_from_table, budget_from_table, script_from_table, map_from_table, load_from_table}
use Rattle.rv_base.specs.Names.{index_in}
use Rattle.rv_lists.specs.JobList.{signature_from_table, exit_from_table, reference_from_table, console_from_table, end_from_table, same_as_from_table, isa_from_table}
use Rattle.rv_lists.specs.JobList.{misaligned_from_table, job_from_element, jobs_of_elements, job_elements, jobs_of_document, job_list_of, document_of}
use Rattle.rv_lists.specs.JobList.{names_of_jobs}
use Rattle.rv_lists.specs.ListFaults.{fault_of_job, unused_name, reserved_name, with_reserved_name, faults_of_elements, faults_or_list_fault, faults_of_document}
use Rattle.rv_lists.specs.ListFaults.{list_faults}

reads : {A : Type 0} (P : Job → Type 0) (r : Result A What) (f : A → Result Job What)
    → ((x : A) → r ≡ Ok x → IfOk (f x) P) → IfOk (r >>= f) P
reads P (Ok x) f h = h x refl
reads P (Err e) f h = tt

none_there : (o : Option ℕ) (x : Unit {0}) → fault_if (is_some o) what.Duplicate ≡ Ok x → o ≡ None
none_there None x e = refl
none_there (Some k) x e = cc

new_name : (names : List (List ℕ)) (r : Result (List ℕ) What) (name : List ℕ) → r ≡ Ok name
    → index_in names name ≡ None → unused_name names r ≡ Some name
new_name names r name e fresh = rw (e, fresh) refl

-- the name of a good job is taken by it
job_takes : (names : List (List ℕ)) (ms : Members)
    → IfOk (job_from_table names ms) (λ job. unused_name names (name_from_table ms) ≡ Some job.name)
unfolding job_from_table
job_takes names ms =
    let P : Job → Type 0 = λ job. unused_name names (name_from_table ms) ≡ Some job.name in
    reads P (fault_if (has_unknown_job_or_region_key ms) what.UnknownKey) _ (λ known is1.
    reads P (fault_if (has_wrong_type ms) what.WrongType) _ (λ typed is2.
    reads P (name_from_table ms) _ (λ name named.
    reads P (fault_if (is_some (index_in names name)) what.Duplicate) _ (λ fresh free.
    reads P (image_from_table ms) _ (λ image is5.
    reads P (budget_from_table ms) _ (λ budget is6.
    reads P (script_from_table ms) _ (λ script is7.
    reads P (map_from_table ms) _ (λ regions is8.
    reads P (load_from_table ms) _ (λ load is9.
    reads P (signature_from_table ms) _ (λ signature is10.
    reads P (exit_from_table ms) _ (λ exit is11.
    reads P (reference_from_table (is_some signature) ms) _ (λ reference is12.
    reads P (console_from_table ms) _ (λ console is13.
    reads P (end_from_table ms) _ (λ end is14.
    reads P (same_as_from_table names ms) _ (λ same is15.
    reads P (isa_from_table ms) _ (λ set is16.
    reads P (misaligned_from_table ms) _ (λ choice is17.
    new_name names (name_from_table ms) name named (none_there (index_in names name) fresh free))))))))))))))))))

takes : (names : List (List ℕ)) (d : Data) → IfOk (job_from_element names d) (λ job. reserved_name names d ≡ Some job.name)
unfolding job_from_element reserved_name
takes names (table ms) = job_takes names ms
takes names _ = tt

-- the name of a good element is taken by its job
pub good_takes : (names : List (List ℕ)) (d : Data) (job : Job) → job_from_element names d ≡ Ok job
    → reserved_name names d ≡ Some job.name
good_takes names d job e = rw e at (takes names d)

-- ---- one element more

-- the names behind a good element
pub good_named : (js new : List Job) (job : Job) (d : Data) → job_from_element (names_of_jobs js) d ≡ Ok job
    → new ≡ js ++ job ∷ [] → names_of_jobs new ≡ with_reserved_name (names_of_jobs js) (reserved_name (names_of_jobs js) d)
good_named js new job d good pushed =
    rw (pushed, map-append (λ (j : Job). j.name) js (job ∷ []), good_takes (names_of_jobs js) d job good) refl

-- the faults behind an element are those before it, and its own
pub faults_more : (front new : List JobError) (n : ℕ) (names next : List (List ℕ)) (vs : List Value) (i : ℕ)
    (d : Value) → i < length vs → new ≡ front ++ fault_of_job n (job_from_element names (view (get_or vs i d)))
    → next ≡ with_reserved_name names (reserved_name names (view (get_or vs i d)))
    → new ++ faults_of_elements (n + 1) next (items_view (drop (i + 1) vs))
    ≡ front ++ faults_of_elements n names (items_view (drop i vs))
unfolding faults_of_elements
faults_more front new n names next vs i d lt pushed named =
    rw (pushed, named, items_view-drop vs i d lt) (append_assoc front _ _)

-- past the last element
pub faults_end : (front : List JobError) (n : ℕ) (names : List (List ℕ)) (vs : List Value) (i : ℕ) → length vs ≤ i
    → front ++ faults_of_elements n names (items_view (drop i vs)) ≡ front
unfolding faults_of_elements
faults_end front n names vs i past = rw (drop_of_length-le vs past) (append-nil front)

-- ---- the first fault

fault_kept : {A : Type 0} (r : Result (List A) JobError) (x : A)
    → result_err r ≡ result_err (r >>= (λ xs. Ok (x ∷ xs)))
fault_kept (Ok xs) x = refl
fault_kept (Err e) x = refl

first_at : (n : ℕ) (names : List (List ℕ)) (d : Data) (ds : Items) (r : Result Job What) → job_from_element names d ≡ r
    → slice_get (faults_of_elements (n + 1) (with_reserved_name names (reserved_name names d)) ds) 0
    ≡ result_err (jobs_of_elements (n + 1) (with_reserved_name names (reserved_name names d)) ds)
    → slice_get (faults_of_elements n names (item d ds)) 0 ≡ result_err (jobs_of_elements n names (item d ds))
unfolding faults_of_elements jobs_of_elements
first_at n names d ds (Ok job) e later =
    rw e (later
    ∙ ap (λ o. result_err (jobs_of_elements (n + 1) (with_reserved_name names o) ds)) (good_takes names d job e)
    ∙ fault_kept (jobs_of_elements (n + 1) (names ++ job.name ∷ []) ds) job)
first_at n names d ds (Err w) e later = rw e refl

first_from : (n : ℕ) (names : List (List ℕ)) (ds : Items)
    → slice_get (faults_of_elements n names ds) 0 ≡ result_err (jobs_of_elements n names ds)
unfolding faults_of_elements jobs_of_elements
first_from n names no_items = refl
first_from n names (item d ds) = first_at n names d ds (job_from_element names d) refl
    (first_from (n + 1) (with_reserved_name names (reserved_name names d)) ds)

first_of : (r : Result Items What) → slice_get (faults_or_list_fault r) 0 ≡ result_err (with_job_number 0 r >>= jobs_of_elements 1 [])
first_of (Ok ds) = first_from 1 [] ds
first_of (Err w) = refl

first_in : (o : Option Members) → slice_get (faults_of_document o) 0 ≡ result_err (jobs_of_document o)
unfolding faults_of_document jobs_of_document
first_in None = refl
first_in (Some ms) = first_of (job_elements ms)

-- the first of all faults is the one that a list is refused by
pub first_fault : (bytes : List ℕ) → slice_get (list_faults bytes) 0 ≡ result_err (job_list_of bytes)
unfolding list_faults job_list_of
first_fault bytes = first_in (document_of bytes)
