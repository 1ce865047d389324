-- A text with edits, edit by edit.
use Rattle.std.proofs.Common.{◌≡◌, ◌∙◌, ◌<◌, ◌≤◌, ◌+◌, ◌++◌, ◌∷◌, ℕ, List, ap, sym, length, drop, get_or, append_assoc, suc, arith}
use Rattle.std.proofs.Math.ListN.{drop_of_length-le}
use Rattle.std.proofs.Math.Seq.{drop-cons}
use Rattle.rv_accept.specs.declared.edits.Edit.{Edit}
use Rattle.rv_accept.specs.Edits.{edited_rest, text_range}

-- one edit more is made
pub edit_more : (from i : ℕ) (text whole done middle made : List ℕ) (edits : List Edit) (edit : Edit)
    → i < length edits → edit ≡ get_or edits i edit
    → done ++ edited_rest from text (drop i edits) ≡ whole
    → middle ≡ done ++ text_range from edit.begin text → made ≡ middle ++ edit.text
    → made ++ edited_rest edit.end text (drop (i + 1) edits) ≡ whole
unfolding edited_rest
edit_more from i text whole done middle made edits edit below one before has is =
    let kind = text_range from edit.begin text in
    let rest = edited_rest edit.end text (drop (i + 1) edits) in
    let counted : suc i ≡ i + 1 = omega arith in
    let next : drop i edits ≡ edit ∷ drop (i + 1) edits =
    drop-cons edits i edit below ∙ ap (λ n. get_or edits i edit ∷ drop n edits) counted
    ∙ ap (λ (e : Edit). e ∷ drop (i + 1) edits) (sym one) in
    rw (is, has) (append_assoc (done ++ kind) edit.text rest ∙ append_assoc done kind (edit.text ++ rest)
    ∙ ap (λ tail. done ++ tail) (sym (append_assoc kind edit.text rest)) ∙ rw next at before)

-- no edit is left
pub edits_end : (from i : ℕ) (text whole done made : List ℕ) (edits : List Edit)
    → length edits ≤ i → done ++ edited_rest from text (drop i edits) ≡ whole
    → made ≡ done ++ drop from text → made ≡ whole
unfolding edited_rest
edits_end from i text whole done made edits past before is = is ∙ rw (drop_of_length-le edits past) at before
