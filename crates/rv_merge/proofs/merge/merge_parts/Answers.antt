use Rattle.std.proofs.Common.{◌≡◌, ◌∙◌, ◌==◌, ◌<◌, ℕ, zero, suc, Bool, Bor, List, IfOk, IfErr, false, [], length}
use Rattle.std.proofs.Common.{sym, arith, subst}
use Rattle.std.proofs.lemmas.Bool.{eqb-true, false≢true}
use Rattle.std.proofs.lemmas.List.{nil_from_length}
use Rattle.rv_merge.specs.declared.error.MergeError.TheVariants as error
use Rattle.rv_merge.specs.MergeState.{IsMergeStateAfter}
use Rattle.rv_merge.specs.declared.merge_state.MergeState.{MergeState}
use Rattle.rv_merge.specs.Parts.{AreParts, bytes_of_texts}
use Rattle.rv_merge.specs.Refusals.{HasMergeError}
use Rattle.rv_merge.proofs.Ends.{found_in, refused_job_count, sources_some}
use Rattle.rv_merge.proofs.Never.{gives, gives_err, refused_only}
use Rattle.rv_merge.proofs.Texts.{length-bytes_of}
use Rattle.rv_merge.proofs.merge.merge_parts.Goals as goal

none_there : (c : goal.Then-is_empty) → bytes_of_texts c.args.texts.now ≡ []
none_there c =
    nil_from_length (bytes_of_texts c.args.texts.now)
    (length-bytes_of c.args.texts.now
    ∙ eqb-true (length c.args.texts.now) 0 (sym c.is_empty.ensures ∙ c.if-is_empty.true))

pub returns-then-is_empty-clause-accepts : goal.returns-then-is_empty-clause-accepts
returns-then-is_empty-clause-accepts c = λ rows parts.
    refused_only rows (bytes_of_texts c.args.texts.now) error.NoTexts parts (none_there c)

pub returns-then-is_empty-clause-error : goal.returns-then-is_empty-clause-error
returns-then-is_empty-clause-error c = none_there c

pub returns-in_err-gathered-clause-accepts : goal.returns-in_err-gathered-clause-accepts
returns-in_err-gathered-clause-accepts c =
    gives_err (bytes_of_texts c.args.texts.now) c.from_residual.result c.in_err-gathered.field-0.0 c.from_residual.ensures.1
    c.in_err-gathered.ensures.error

some_there : (n : ℕ) → (n == 0) ≡ false → 0 < n
some_there zero e = absurd (false≢true (sym e))
some_there (suc n) e = omega arith

-- all texts are gathered, and there are some
all_held : (texts : List (Bor (List ℕ))) (g : MergeState) → IsMergeStateAfter (bytes_of_texts texts) (length texts) g
    → IsMergeStateAfter (bytes_of_texts texts) (length (bytes_of_texts texts)) g
all_held texts g h = subst (λ (n : ℕ). IsMergeStateAfter (bytes_of_texts texts) n g) (sym (length-bytes_of texts)) h

some_held : (texts : List (Bor (List ℕ))) (b : Bool) → b ≡ (length texts == 0) → b ≡ false
    → 0 < length (bytes_of_texts texts)
some_held texts b is no' =
    let some = some_there (length texts) (sym is ∙ no') in
    omega (arith, length-bytes_of texts)

pub rows_of_parts-requires : goal.rows_of_parts-requires
rows_of_parts-requires c =
    let g = c.in_ok-gathered.gathered in
    sources_some (bytes_of_texts c.args.texts.now) g.first g.sources.items g.slots.items
    (all_held c.args.texts.now g c.in_ok-gathered.ensures.state)
    (some_held c.args.texts.now c.is_empty.result c.is_empty.ensures c.if-is_empty.false)

found : (c : goal.After-rows_of_parts) → IfOk c.rows_of_parts.result (λ rows. AreParts rows (bytes_of_texts c.args.texts.now))
found c =
    let g = c.in_ok-gathered.gathered in
    found_in (bytes_of_texts c.args.texts.now) g.first g.sources.items g.slots.items
    (all_held c.args.texts.now g c.in_ok-gathered.ensures.state)
    (some_held c.args.texts.now c.is_empty.result c.is_empty.ensures c.if-is_empty.false) c.rows_of_parts.result
    c.rows_of_parts.ensures.rows

refused : (c : goal.After-rows_of_parts) → IfErr c.rows_of_parts.result (HasMergeError (bytes_of_texts c.args.texts.now))
refused c =
    let g = c.in_ok-gathered.gathered in
    refused_job_count (bytes_of_texts c.args.texts.now) g.first g.sources.items g.slots.items
    (all_held c.args.texts.now g c.in_ok-gathered.ensures.state)
    (some_held c.args.texts.now c.is_empty.result c.is_empty.ensures c.if-is_empty.false) c.rows_of_parts.result
    c.rows_of_parts.ensures.error

pub returns-clause-rows : goal.returns-clause-rows
returns-clause-rows c = found c

pub returns-clause-accepts : goal.returns-clause-accepts
returns-clause-accepts c = gives (bytes_of_texts c.args.texts.now) c.rows_of_parts.result (found c) (refused c)

pub returns-clause-error : goal.returns-clause-error
returns-clause-error c = refused c
