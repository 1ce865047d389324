-- The table of one image, and the names and budgets of the jobs of two tables.
use Rattle.std.proofs.Common.{◌≡◌, ◌∙◌, ◌+◌, ◌<◌, ℕ, Bool, true, false, cond, List, [], ◌∷◌, ◌++◌, Option, Some, None, length, refl, sym, ap, subst, arith}
use Rattle.std.specs.List.{AllByRecursion}
use Rattle.std.specs.Str.{IsUtf8}
use Rattle.sha2.specs.Sha256.{sha256}
use Rattle.rv_count_tables.specs.declared.table.AddressCounts.{AddressCounts}
use Rattle.rv_count_tables.specs.declared.table.CountTable.{CountTable}
use Rattle.rv_count_tables.specs.declared.table.FunctionName.{FunctionName}
use Rattle.rv_count_tables.specs.declared.table.ImageCounts.{ImageCounts}
use Rattle.rv_count_tables.specs.Lines.{lacks}
use Rattle.rv_count_tables.specs.Sum.{NamesAgree, IsSumOfTables}
use Rattle.rv_count_tables.specs.Table.{name_in, min_text_of, increase_from, AreValidCounts, IsValidImage, IsValidTable}
use Rattle.rv_counting.proofs.Public.{one_rises}
use Rattle.rv_counting.specs.declared_answers.PathResult.{PathResult}
use Rattle.rv_counting.specs.declared_job.Job.{Job}
use Rattle.rv_count_tables.specs.declared_call_node.CallNode.{CallNode}
use Rattle.rv_count_tables.specs.Sums.{FitsFields}
use Rattle.rv_count_tables.specs.Trees.{HasCalls, IsTree}
use Rattle.rv_stacks.specs.StackTables.{name_of_job, AreNamesBy, IsNamedBy, IsTableOfRun, RunsWithinABudget}
use Rattle.rv_count_tables.specs.Printable.{printable_text}
use Rattle.rv_stacks.proofs.NamedSpots.{can_stand}

-- ---- the table of one image

no_counts_rise : increase_from 0 [] ≡ true
unfolding increase_from
no_counts_rise = refl

pub no_addresses : AreValidCounts []
no_addresses = record { each = tt; rising = no_counts_rise }

pub one_image_is_table : (i : ImageCounts) → IsValidImage i → IsValidTable (record { images = i ∷ []; runs = 1 })
one_image_is_table i h = record { images = (h, tt); rising = one_rises i; few = omega arith; runs = omega arith }

-- that of a run, by what was made for it
pub run_table : (name : ℕ → List ℕ) (path file digest shown : List ℕ) (addresses : List AddressCounts)
    (functions : List FunctionName) (nodes given : List CallNode) (images : List ImageCounts)
    → images ≡ record { digest = digest; path = shown; addresses = addresses; functions = functions; nodes = nodes } ∷ []
    → digest ≡ sha256 file → shown ≡ printable_text path → AreValidCounts addresses → given ≡ nodes
    → AreNamesBy name given functions → AllByRecursion FitsFields given → IsTree nodes → HasCalls nodes
    → length digest ≡ 32 → AllByRecursion (λ b. b < 256) digest → IsUtf8 shown → lacks 10 shown ≡ true
    → IsTableOfRun name path file addresses nodes (record { images = images; runs = 1 })
run_table name path file digest shown addresses functions nodes given images is d p counts same named fits tree some long
    bytes utf8 line =
    let i : ImageCounts = record { digest = digest; path = shown; addresses = addresses; functions = functions; nodes = nodes } in
    let names = subst (λ (ss : List CallNode). AreNamesBy name ss functions) same named in
    record {
      functions = functions;
      named = names;
      value = (λ k. record { images = is k; runs = 1 })
          ∙ (λ k. record {
            images = record { digest = d k; path = p k; addresses = addresses; functions = functions; nodes = nodes } ∷ [];
            runs = 1;
          });
      table = subst (λ (images : List ImageCounts). IsValidTable (record { images = images; runs = 1 })) (sym is)
          (one_image_is_table i (record {
            digest = long;
            bytes = bytes;
            path = line;
            text = utf8;
            counts = counts;
            names = names.sound;
            nodes = record {
              each = can_stand nodes (subst (λ (ss : List CallNode). AllByRecursion FitsFields ss) same fits) some;
              tree = tree;
            };
            names_of_nodes = names.names_of_nodes;
          }));
    }

-- ---- jobs of both

pub same_either : (b : Bool) (name : List ℕ) → cond b name name ≡ name
same_either true name = refl
same_either false name = refl

named_first : (o p : Option (List ℕ)) (name : List ℕ) → NamesAgree o p → o ≡ Some name → min_text_of o p ≡ Some name
named_first None p name agree h = cc
named_first (Some x) None name agree h = h
named_first (Some x) (Some y) name agree h =
    ap (λ (z : List ℕ). min_text_of (Some x) (Some z)) (sym agree) ∙ ap Some (same_either _ x) ∙ h

named_second : (o p : Option (List ℕ)) (name : List ℕ) → NamesAgree o p → p ≡ Some name → min_text_of o p ≡ Some name
named_second None p name agree h = h
named_second (Some x) None name agree h = cc
named_second (Some x) (Some y) name agree h =
    ap (λ (z : List ℕ). min_text_of (Some z) (Some y)) agree ∙ ap Some (same_either _ y) ∙ h

all_both : {X : Type 0} (P Q R : X → Type 0) (xs ys : List X) → ((x : X) → P x → R x) → ((y : X) → Q y → R y)
    → AllByRecursion P xs → AllByRecursion Q ys → AllByRecursion R (xs ++ ys)
all_both P Q R [] [] f g h k = tt
all_both P Q R [] (y ∷ ys) f g h k = (g y k.0, all_both P Q R [] ys f g tt k.1)
all_both P Q R (x ∷ xs) ys f g h k = (f x h.0, all_both P Q R xs ys f g h.1 k)

pub names_of_both : (answers : List PathResult) (js ks : List Job) (t u sum : CountTable) → IsSumOfTables t u sum → (digest : List ℕ) (f : ℕ)
    → AllByRecursion (IsNamedBy answers t digest f) js → AllByRecursion (IsNamedBy answers u digest f) ks
    → AllByRecursion (IsNamedBy answers sum digest f) (js ++ ks)
names_of_both answers js ks t u sum is digest f =
    all_both (IsNamedBy answers t digest f) (IsNamedBy answers u digest f) (IsNamedBy answers sum digest f) js ks
    (λ job named path ends some. is.names digest f
    ∙ named_first (name_in digest f t.images) (name_in digest f u.images) (name_of_job answers job f) (is.agree digest f)
    (named path ends some))
    (λ job named path ends some. is.names digest f
    ∙ named_second (name_in digest f t.images) (name_in digest f u.images) (name_of_job answers job f) (is.agree digest f)
    (named path ends some))

pub budgets_of_both : (answers : List PathResult) (js ks : List Job) → AllByRecursion (RunsWithinABudget answers) js
    → AllByRecursion (RunsWithinABudget answers) ks → AllByRecursion (RunsWithinABudget answers) (js ++ ks)
budgets_of_both answers js ks =
    all_both (RunsWithinABudget answers) (RunsWithinABudget answers) (RunsWithinABudget answers) js ks (λ job h. h) (λ job h. h)
