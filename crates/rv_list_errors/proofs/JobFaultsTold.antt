-- What is told of a job, by what is wrong.
use Rattle.std.proofs.Common.{◌≡◌, ℕ, List, Option, Some, None, refl, subst, sym}
use Rattle.toml.specs.Data.{Data, Members, array, as_table, string, integer, float, boolean, datetime, table}
use Rattle.rv_lists.specs.declared.error.What.{What}
use Rattle.rv_lists.specs.declared.error.What.TheVariants as what
use Rattle.rv_list_errors.specs.JobFaults.{IsExplanationOf, IsTextOfExplanation, ExplainsFaultOfTable, ExplainsJobFault, ExplainsNonTable, ExplainsOwnFault}
use Rattle.rv_list_errors.specs.declared.explanations.Explanation.{Explanation}

-- ---- of a table

pub own_told : (wrong : What) (ms : Members) (explained : Explanation) (told : List ℕ) → (wrong ≡ what.UnknownKey → ⊥)
    → (wrong ≡ what.WrongType → ⊥) → (wrong ≡ what.Region → ⊥) → IsExplanationOf wrong ms explained → IsTextOfExplanation explained ms told → ExplainsOwnFault wrong ms told
own_told what.NotToml ms explained told key kind region is so = (explained, is, so)
own_told what.NoJobs ms explained told key kind region is so = (explained, is, so)
own_told what.TooMany ms explained told key kind region is so = (explained, is, so)
own_told what.UnknownKey ms explained told key kind region is so = absurd (key refl)
own_told what.WrongType ms explained told key kind region is so = absurd (kind refl)
own_told what.Name ms explained told key kind region is so = (explained, is, so)
own_told what.Duplicate ms explained told key kind region is so = (explained, is, so)
own_told what.Image ms explained told key kind region is so = (explained, is, so)
own_told what.Budget ms explained told key kind region is so = (explained, is, so)
own_told what.Input ms explained told key kind region is so = (explained, is, so)
own_told what.Region ms explained told key kind region is so = absurd (region refl)
own_told what.Load ms explained told key kind region is so = (explained, is, so)
own_told what.Signature ms explained told key kind region is so = (explained, is, so)
own_told what.Expect ms explained told key kind region is so = (explained, is, so)
own_told what.SameAs ms explained told key kind region is so = (explained, is, so)
own_told what.OutOfMemory ms explained told key kind region is so = (explained, is, so)
own_told what.Isa ms explained told key kind region is so = (explained, is, so)
own_told what.Misaligned ms explained told key kind region is so = (explained, is, so)

pub table_told : (names : List (Option (List ℕ))) (wrong : What) (ms : Members) (told : List ℕ) → (wrong ≡ what.Duplicate → ⊥)
    → (wrong ≡ what.SameAs → ⊥) → ExplainsOwnFault wrong ms told → ExplainsFaultOfTable names ms wrong told
table_told names what.NotToml ms told one other so = so
table_told names what.NoJobs ms told one other so = so
table_told names what.TooMany ms told one other so = so
table_told names what.UnknownKey ms told one other so = so
table_told names what.WrongType ms told one other so = so
table_told names what.Name ms told one other so = so
table_told names what.Duplicate ms told one other so = absurd (one refl)
table_told names what.Image ms told one other so = so
table_told names what.Budget ms told one other so = so
table_told names what.Input ms told one other so = so
table_told names what.Region ms told one other so = so
table_told names what.Load ms told one other so = so
table_told names what.Signature ms told one other so = so
table_told names what.Expect ms told one other so = so
table_told names what.SameAs ms told one other so = absurd (other refl)
table_told names what.OutOfMemory ms told one other so = so
table_told names what.Isa ms told one other so = so
table_told names what.Misaligned ms told one other so = so

-- ---- of an element

is_table_of : (d : Data) (ms : Members) → Some ms ≡ as_table d → d ≡ table ms
is_table_of (array x) ms e = cc
is_table_of (string x) ms e = cc
is_table_of (integer x) ms e = cc
is_table_of (float x) ms e = cc
is_table_of (boolean x) ms e = cc
is_table_of (datetime x) ms e = cc
is_table_of (table x) ms e = cc

pub told_of_table : (names : List (Option (List ℕ))) (element : Option Data) (d : Data) (ms : Members) (wrong : What) (told : List ℕ)
    → Some d ≡ element → Some ms ≡ as_table d → ExplainsFaultOfTable names ms wrong told → ExplainsJobFault names element wrong told
told_of_table names element d ms wrong told is e so =
    subst (λ o. ExplainsJobFault names o wrong told) is
    (subst (λ value. ExplainsJobFault names (Some value) wrong told) (sym (is_table_of d ms e)) so)

no_table_told : (names : List (Option (List ℕ))) (d : Data) (wrong : What) (told : List ℕ) → None ≡ as_table d → ExplainsNonTable d told
    → ExplainsJobFault names (Some d) wrong told
no_table_told names (array x) wrong told e so = so
no_table_told names (string x) wrong told e so = so
no_table_told names (integer x) wrong told e so = so
no_table_told names (float x) wrong told e so = so
no_table_told names (boolean x) wrong told e so = so
no_table_told names (datetime x) wrong told e so = so
no_table_told names (table x) wrong told e so = cc e

pub told_of_no_table : (names : List (Option (List ℕ))) (element : Option Data) (d : Data) (wrong : What) (told : List ℕ)
    → Some d ≡ element → None ≡ as_table d → ExplainsNonTable d told → ExplainsJobFault names element wrong told
told_of_no_table names element d wrong told is e so =
    subst (λ o. ExplainsJobFault names o wrong told) is (no_table_told names d wrong told e so)
