-- All errors of a list: a single one of the whole list, or the first error of each bad job. The name of a bad job is reserved too, so that
-- an error in one job does not cause another.
use Rattle.std.specs.Prelude.{◌+◌, ℕ, List, [], ◌∷◌, ◌++◌, Option, Some, None, Result, Ok, Err}
use Rattle.std.specs.Prelude.{is_some, if◌then◌else◌}
use Rattle.toml.specs.Data.{Data, Items, no_items, item, Members, table}
use Rattle.rv_lists.specs.declared.error.What.{What}
use Rattle.rv_lists.specs.declared.error.What.TheVariants as what
use Rattle.rv_lists.specs.declared.error.JobError.{JobError}
use Rattle.rv_lists.specs.JobList.{name_from_table, job_from_element, job_elements, document_of}
use Rattle.rv_base.specs.Names.{index_in}

-- a list with the error of the job with the number `n`, or an empty list if there is no error
abbrev pub fault_of_job : {A : Type 0} → ℕ → Result A What → List JobError
fault_of_job n (Ok x) = []
fault_of_job n (Err w) = record { job = n; what = w } ∷ []

-- the name, or `None` if it is invalid or already among these names
abbrev pub unused_name : List (List ℕ) → Result (List ℕ) What → Option (List ℕ)
unused_name names (Ok name) = if is_some (index_in names name) then None else Some name
unused_name names (Err fault) = None

-- the name that an element reserves, whether its job is good or bad, or `None` if its name is missing, invalid or already reserved
unfoldable pub reserved_name : List (List ℕ) → Data → Option (List ℕ)
reserved_name names (table ms) = unused_name names (name_from_table ms)
reserved_name names _ = None

-- the reserved names with one more name appended, or unchanged if there is no name
abbrev pub with_reserved_name : List (List ℕ) → Option (List ℕ) → List (List ℕ)
with_reserved_name names None = names
with_reserved_name names (Some name) = names ++ name ∷ []

-- the first error of each bad element; `n` is the number of the first element, and `names` are the names that earlier elements reserve
unfoldable pub faults_of_elements : ℕ → List (List ℕ) → Items → List JobError
faults_of_elements n names no_items = []
faults_of_elements n names (item d ds) =
    fault_of_job n (job_from_element names d)
    ++ faults_of_elements (n + 1) (with_reserved_name names (reserved_name names d)) ds

-- the errors of the elements of `job`, or the single error of the whole list
abbrev pub faults_or_list_fault : Result Items What → List JobError
faults_or_list_fault (Ok ds) = faults_of_elements 1 [] ds
faults_or_list_fault (Err w) = record { job = 0; what = w } ∷ []

-- the errors of a TOML document; `None` means that a text is not a TOML document
unfoldable pub faults_of_document : Option Members → List JobError
faults_of_document None = record { job = 0; what = what.NotToml } ∷ []
faults_of_document (Some ms) = faults_or_list_fault (job_elements ms)

-- all errors of the list with this text
unfoldable pub list_faults : List ℕ → List JobError
list_faults bytes = faults_of_document (document_of bytes)
