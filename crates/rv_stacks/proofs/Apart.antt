-- The table of counts and stacks, without the one and without the other.
use Rattle.std.proofs.Common.{◌≡◌, ◌∙◌, ◌+◌, ◌&&◌, ℕ, Bool, true, false, cond, List, [], ◌∷◌, Option, Some, None, map, refl, sym, ap, subst, arith}
use Rattle.std.proofs.lemmas.List.{length-map}
use Rattle.std.specs.List.{AllByRecursion}
use Rattle.std.specs.Str.{bytes_eq}
use Rattle.rv_count_tables.specs.declared.table.CountTable.{CountTable}
use Rattle.rv_count_tables.specs.declared.table.ImageCounts.{ImageCounts}
use Rattle.rv_count_tables.specs.Sum.{NamesAgree, IsSumOfTables}
use Rattle.rv_count_tables.specs.Table.{executed_at, taken_at, executed_in, taken_in, path_of_image, name_at, name_in, calls_in_image, steps_in, digests_increase_from, is_greater_than_last, min_text_of, IsValidImage, IsValidTable}
use Rattle.rv_counting.proofs.Public.{no_names, no_owners, no_spots}
use Rattle.rv_counting.specs.JobTables.{jobs_at, IsTableOfJobsAt}
use Rattle.rv_counting.specs.Plans.{PlanView}
use Rattle.rv_count_tables.specs.Trees.{calls_at, steps_at}
use Rattle.rv_stacks.specs.StackTables.{image_without_stacks, without_stacks, AreStacksOfJobsAt, IsNamedBy, IsTableWithStacks}
use Rattle.rv_stacks.proofs.Tables.{no_addresses}
use Rattle.rv_stacks.proofs.WithStacks.{each_so, of_places, with_itself, IsOfJobs}

abbrev bare : List ImageCounts → List ImageCounts
bare is = map image_without_stacks is

-- ---- a table that can be

each_bare : (is : List ImageCounts) → AllByRecursion IsValidImage is → AllByRecursion IsValidImage (bare is)
each_bare [] h = tt
each_bare (i ∷ is) h = (
  record {
    digest = h.0.digest;
    bytes = h.0.bytes;
    path = h.0.path;
    text = h.0.text;
    counts = h.0.counts;
    names = no_names;
    nodes = no_spots;
    names_of_nodes = no_owners;
  },
  each_bare is h.1,
)

bare_rises : (last : Option (List ℕ)) (is : List ImageCounts) → digests_increase_from last (bare is) ≡ digests_increase_from last is
unfolding digests_increase_from
bare_rises last [] = refl
bare_rises last (i ∷ is) = ap (λ (b : Bool). is_greater_than_last last i.digest && b) (bare_rises (Some i.digest) is)

bare_is_table : (t : CountTable) → IsValidTable t → IsValidTable (without_stacks t)
bare_is_table t h = record {
  images = each_bare t.images h.images;
  rising = bare_rises None t.images ∙ h.rising;
  few = (let e = length-map t.images image_without_stacks in
      let few = h.few in
      omega (arith, e, few));
  runs = h.runs;
}

-- ---- what it says

none_picked : (b : Bool) (o : Option (List ℕ)) → min_text_of (cond b None None) o ≡ o
none_picked true o = refl
none_picked false o = refl

zero_picked : (b : Bool) (n : ℕ) → n ≡ 0 → cond b 0 0 + n ≡ 0
zero_picked true n h = omega (arith, h)
zero_picked false n h = omega (arith, h)

module _ (digest : List ℕ) where
  same_begun : (address : ℕ) (is : List ImageCounts) → executed_in digest address (bare is) ≡ executed_in digest address is
  same_begun address [] = refl
  same_begun address (i ∷ is) =
      ap (λ (n : ℕ). cond (bytes_eq i.digest digest) (executed_at address i.addresses) 0 + n) (same_begun address is)

  same_taken : (address : ℕ) (is : List ImageCounts) → taken_in digest address (bare is) ≡ taken_in digest address is
  same_taken address [] = refl
  same_taken address (i ∷ is) =
      ap (λ (n : ℕ). cond (bytes_eq i.digest digest) (taken_at address i.addresses) 0 + n) (same_taken address is)

  same_path : (is : List ImageCounts) → path_of_image digest (bare is) ≡ path_of_image digest is
  same_path [] = refl
  same_path (i ∷ is) = ap (min_text_of (cond (bytes_eq i.digest digest) (Some i.path) None)) (same_path is)

  no_name : (f : ℕ) (is : List ImageCounts) → name_in digest f (bare is) ≡ None
  no_name f [] = refl
  no_name f (i ∷ is) = none_picked (bytes_eq i.digest digest) (name_in digest f (bare is)) ∙ no_name f is

  no_arrivals : (path : List ℕ) (is : List ImageCounts) → calls_in_image digest path (bare is) ≡ 0
  no_arrivals path [] = refl
  no_arrivals path (i ∷ is) = zero_picked (bytes_eq i.digest digest) (calls_in_image digest path (bare is)) (no_arrivals path is)

  no_steps : (path : List ℕ) (is : List ImageCounts) → steps_in digest path (bare is) ≡ 0
  no_steps path [] = refl
  no_steps path (i ∷ is) = zero_picked (bytes_eq i.digest digest) (steps_in digest path (bare is)) (no_steps path is)

counts_of_jobs : (plan : PlanView) (indices : List ℕ) (t : CountTable) → IsOfJobs plan.results (jobs_at plan indices) t
    → IsTableOfJobsAt plan indices (without_stacks t)
counts_of_jobs plan indices t h = record {
  table = bare_is_table t h.table;
  executed = λ digest address. same_begun digest address t.images ∙ h.executed digest address;
  taken = λ digest address. same_taken digest address t.images ∙ h.taken digest address;
  paths = λ digest. same_path digest t.images ∙ h.paths digest;
  runs = h.runs;
  stacks = record {
    names = λ digest f. no_name digest f t.images;
    calls = λ digest path. no_arrivals digest path t.images;
    steps = λ digest path. no_steps digest path t.images;
  };
}

pub counts_alone : (plan : PlanView) (indices : List ℕ) (t : CountTable) → IsTableWithStacks plan indices t
    → IsTableOfJobsAt plan indices (without_stacks t)
counts_alone plan indices t is = counts_of_jobs plan indices t (of_places plan indices t is)

-- ---- the stacks alone

abbrev image_without_counts : ImageCounts → ImageCounts
image_without_counts i = record {
  digest = i.digest;
  path = i.path;
  addresses = [];
  functions = i.functions;
  nodes = i.nodes;
}

abbrev stacked : List ImageCounts → List ImageCounts
stacked is = map image_without_counts is

abbrev stacks_alone : CountTable → CountTable
stacks_alone t = record { images = stacked t.images; runs = 0 }

each_stacked : (is : List ImageCounts) → AllByRecursion IsValidImage is → AllByRecursion IsValidImage (stacked is)
each_stacked [] h = tt
each_stacked (i ∷ is) h = (
  record {
    digest = h.0.digest;
    bytes = h.0.bytes;
    path = h.0.path;
    text = h.0.text;
    counts = no_addresses;
    names = h.0.names;
    nodes = h.0.nodes;
    names_of_nodes = h.0.names_of_nodes;
  },
  each_stacked is h.1,
)

stacked_rises : (last : Option (List ℕ)) (is : List ImageCounts) → digests_increase_from last (stacked is) ≡ digests_increase_from last is
unfolding digests_increase_from
stacked_rises last [] = refl
stacked_rises last (i ∷ is) = ap (λ (b : Bool). is_greater_than_last last i.digest && b) (stacked_rises (Some i.digest) is)

stacks_are_table : (t : CountTable) → IsValidTable t → IsValidTable (stacks_alone t)
stacks_are_table t h = record {
  images = each_stacked t.images h.images;
  rising = stacked_rises None t.images ∙ h.rising;
  few = (let e = length-map t.images image_without_counts in
      let few = h.few in
      omega (arith, e, few));
  runs = omega arith;
}

module _ (digest : List ℕ) where
  no_begun : (address : ℕ) (is : List ImageCounts) → executed_in digest address (stacked is) ≡ 0
  no_begun address [] = refl
  no_begun address (i ∷ is) =
      zero_picked (bytes_eq i.digest digest) (executed_in digest address (stacked is)) (no_begun address is)

  no_taken : (address : ℕ) (is : List ImageCounts) → taken_in digest address (stacked is) ≡ 0
  no_taken address [] = refl
  no_taken address (i ∷ is) =
      zero_picked (bytes_eq i.digest digest) (taken_in digest address (stacked is)) (no_taken address is)

  stacked_path : (is : List ImageCounts) → path_of_image digest (stacked is) ≡ path_of_image digest is
  stacked_path [] = refl
  stacked_path (i ∷ is) = ap (min_text_of (cond (bytes_eq i.digest digest) (Some i.path) None)) (stacked_path is)

  same_name : (f : ℕ) (is : List ImageCounts) → name_in digest f (stacked is) ≡ name_in digest f is
  same_name f [] = refl
  same_name f (i ∷ is) =
      ap (min_text_of (cond (bytes_eq i.digest digest) (name_at f i.functions) None)) (same_name f is)

  same_arrivals : (path : List ℕ) (is : List ImageCounts)
      → calls_in_image digest path (stacked is) ≡ calls_in_image digest path is
  same_arrivals path [] = refl
  same_arrivals path (i ∷ is) =
      ap (λ (n : ℕ). cond (bytes_eq i.digest digest) (calls_at path i.nodes) 0 + n) (same_arrivals path is)

  same_steps : (path : List ℕ) (is : List ImageCounts) → steps_in digest path (stacked is) ≡ steps_in digest path is
  same_steps path [] = refl
  same_steps path (i ∷ is) =
      ap (λ (n : ℕ). cond (bytes_eq i.digest digest) (steps_at path i.nodes) 0 + n) (same_steps path is)

stacks_of_jobs : (plan : PlanView) (indices : List ℕ) (t : CountTable) → IsOfJobs plan.results (jobs_at plan indices) t
    → AreStacksOfJobsAt plan indices (stacks_alone t)
stacks_of_jobs plan indices t h = record {
  table = stacks_are_table t h.table;
  executed = λ digest address. no_begun digest address t.images;
  taken = λ digest address. no_taken digest address t.images;
  paths = λ digest. stacked_path digest t.images ∙ h.paths digest;
  calls = λ digest path. same_arrivals digest path t.images ∙ h.calls digest path;
  steps = λ digest path. same_steps digest path t.images ∙ h.steps digest path;
  names = λ digest f.
      each_so (IsNamedBy plan.results t digest f) (IsNamedBy plan.results (stacks_alone t) digest f) (jobs_at plan indices)
      (λ job named path ends some. same_name digest f t.images ∙ named path ends some) (h.names digest f);
  runs = refl;
  budgets = h.budgets;
}

both_sum : (t : CountTable) → IsValidTable t → IsSumOfTables (without_stacks t) (stacks_alone t) t
both_sum t table = record {
  table = table;
  executed = λ digest address.
      let p = same_begun digest address t.images in
      let q = no_begun digest address t.images in
      omega (arith, p, q);
  taken = λ digest address.
      let p = same_taken digest address t.images in
      let q = no_taken digest address t.images in
      omega (arith, p, q);
  paths = λ digest. sym (with_itself (path_of_image digest t.images))
      ∙ (λ i. min_text_of (sym (same_path digest t.images) i) (sym (stacked_path digest t.images) i));
  agree = λ digest f.
      subst (λ (o : Option (List ℕ)). NamesAgree o (name_in digest f (stacked t.images))) (sym (no_name digest f t.images)) tt;
  names = λ digest f. sym (λ i. min_text_of (no_name digest f t.images i) (same_name digest f t.images i));
  calls = λ digest path.
      let p = no_arrivals digest path t.images in
      let q = same_arrivals digest path t.images in
      omega (arith, p, q);
  steps = λ digest path.
      let p = no_steps digest path t.images in
      let q = same_steps digest path t.images in
      omega (arith, p, q);
  runs = omega arith;
}

-- a table of both is the sum of what it has of each
pub counts_and_stacks : (plan : PlanView) (indices : List ℕ) (t : CountTable) → IsOfJobs plan.results (jobs_at plan indices) t
    → IsTableWithStacks plan indices t
counts_and_stacks plan indices t h = record {
  counts = without_stacks t;
  stacks = stacks_alone t;
  counted = counts_of_jobs plan indices t h;
  stacked = stacks_of_jobs plan indices t h;
  sum = both_sum t h.table;
}
