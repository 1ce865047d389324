use Rattle.std.proofs.Common.{◌≡◌, ◌∙◌, ◌<◌, ℕ, List, [], ◌∷◌, Some, ap, arith, get_or, length, sym}
use Rattle.std.proofs.lemmas.Option.{slice_get-get_or}
use Rattle.std.specs.Prelude.{option_map, slice_get}
use Rattle.rv_rows.specs.Rows.{row_of}
use Rattle.rv_expect.proofs.same_as_job.row_of_same_as_job.Goals as goal

-- what is made of the element at a place, whatever stands past the end
made_there : {X Y : Type 0} (f : X → Y) (xs : List X) (place : ℕ) (y : Y) → place < length xs
    → ((d : X) → y ≡ f (get_or xs place d)) → Some y ≡ option_map f (slice_get xs place)
made_there f [] place y below is = absurd (omega arith)
made_there f (x ∷ xs) place y below is =
    ap Some (is x) ∙ sym (ap (option_map f) (slice_get-get_or (x ∷ xs) place x below))

pub returns-in_ok-row_at-in-Some : goal.returns-in_ok-row_at-in-Some
returns-in_ok-row_at-in-Some c =
    let plan = c.args.plan.now in
    rw c.in-Some.is (made_there (row_of plan) plan.jobs c.in-Some.index c.in_ok-row_at-in-Some.field-0
    (rw c.in-Some.is at c.requires) c.in_ok-row_at-in-Some.ensures)
