-- How many marks a choice has.
use Rattle.std.proofs.Common.{◌≡◌, ◌∙◌, ℕ, Bool, List, [], ◌∷◌, Option, Some, None, IfSome, Vec, Global, ap, arith, length, refl, subst, sym}
use Rattle.std.specs.Borrow.{Bor}
use Rattle.std.specs.Prelude.{option_map, unwrap_or}
use Rattle.std.proofs.lemmas.List.{length-map}
use Rattle.regex.specs.Patterns.{Re}
use Rattle.rv_command.specs.Files.{FileContents}
use Rattle.rv_choice.specs.Choice.{selection_by_criteria}
use Rattle.rv_choice.specs.Choice.{remaining_selection}
use Rattle.rv_choice.specs.ChosenJobs.{AreChosenWithReport, IsRemainingSelection, AreRequested, IsChoice}
use Rattle.rv_command.specs.declared_run.RunArgs.{RunArgs}
use Rattle.rv_expect.specs.declared.rule.Rule.{Rule}
use Rattle.rv_expect.specs.declared_job.Job.{Job}

beside_count : (contents : Option FileContents) (failed : Option (Bor (List ℕ))) (pattern : Option Re) (args : RunArgs)
    (rule : Rule) (jobs : List Job) (selection : List Bool) (notes : List ℕ)
    → AreChosenWithReport contents failed pattern args rule jobs (Some selection) notes → length selection ≡ length jobs
unfolding selection_by_criteria
beside_count contents None pattern args rule jobs selection notes are =
    ap (λ o. length (unwrap_or o [])) are.0 ∙ length-map jobs _
beside_count contents (Some path) pattern args rule jobs selection notes are =
    ap length are.chosen.selected ∙ length-map jobs _

wanted_count : (contents : Option FileContents) (args : RunArgs) (rule : Rule) (jobs : List Job) (selection : List Bool)
    (notes : List ℕ) → AreRequested contents args rule jobs (Some selection) notes → length selection ≡ length jobs
wanted_count contents args rule jobs selection notes are =
    beside_count contents args.failed _ args rule jobs selection notes are.chosen_by

-- the jobs that words want have a mark each
pub wanted_counts : (contents : Option FileContents) (args : RunArgs) (rule : Rule) (jobs : List Job)
    (selection : Option (Vec Bool Global)) (notes : List ℕ)
    → AreRequested contents args rule jobs (option_map (λ selection. selection.items) selection) notes
    → IfSome selection (λ selection. length selection.items ≡ length jobs)
wanted_counts contents args rule jobs None notes are = tt
wanted_counts contents args rule jobs (Some selection) notes are = wanted_count contents args rule jobs selection.items notes are

left_count : (pattern : Re) (jobs : List Job) (selection : List Bool) → length selection ≡ length jobs
    → length (remaining_selection pattern jobs selection) ≡ length jobs
unfolding remaining_selection
left_count pattern [] selection same = refl
left_count pattern (job ∷ jobs) (mark ∷ selection) same =
    omega (arith, left_count pattern jobs selection (omega (arith, same)))
left_count pattern (job ∷ jobs) [] same = absurd (omega (arith, same))

left_some : (excluded : Option Re) (jobs : List Job) (wanted : Option (List Bool)) (selection : List Bool)
    → ((m : List Bool) → wanted ≡ Some m → length m ≡ length jobs) → IsRemainingSelection excluded jobs wanted (Some selection)
    → length selection ≡ length jobs
left_some None jobs wanted selection count remaining = count selection (sym remaining)
left_some (Some pattern) jobs (Some wanted) selection count remaining =
    ap (λ o. length (unwrap_or o [])) remaining.0 ∙ left_count pattern jobs wanted (count wanted refl)
left_some (Some pattern) jobs None selection count remaining = count selection (sym remaining)

-- there is a mark for each job
pub choice_count : (contents : Option FileContents) (args : RunArgs) (rule : Rule) (jobs : List Job) (selection : List Bool)
    (notes : List ℕ) → IsChoice contents args rule jobs (Some selection) notes → length selection ≡ length jobs
choice_count contents args rule jobs selection notes is =
    let Counts : Option (List Bool) → Type 0 = λ wanted. AreRequested contents args rule jobs wanted notes in
    left_some _ jobs is.requested_selection selection
    (λ m same. wanted_count contents args rule jobs m notes (subst Counts same is.are_requested)) is.remaining
