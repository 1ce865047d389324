use Rattle.std.proofs.Common.{◌≡◌, ◌∙◌, ℕ, Bool, true, false, List, [], ap, cond, refl, sym}
use Rattle.std.proofs.lemmas.Str.{IsUtf8-from_is_utf8, is_utf8-from_IsUtf8}
use Rattle.std.specs.Str.{IsUtf8, is_utf8}
use Rattle.rv_accept_text.specs.JobLocations.{job_lines}
use Rattle.rvtest_app.specs.CheckText.{job_begin_lines}
use Rattle.rvtest_app.proofs.Results.{IfOk-map}
use Rattle.rvtest_app.proofs.check.job_begin_lines.Goals as goal

lines_of_text : (text : List ℕ) → IsUtf8 text → job_begin_lines text ≡ job_lines text
lines_of_text text valid =
    ap (λ (test : Bool). cond test (job_lines text) []) (is_utf8-from_IsUtf8 text valid)

no_lines : (text : List ℕ) (test : Bool) → is_utf8 text ≡ test → ¬ IsUtf8 text → cond test (job_lines text) [] ≡ []
no_lines text true valid invalid = absurd (invalid (IsUtf8-from_is_utf8 text valid))
no_lines text false valid invalid = refl

pub returns-in-Ok : goal.returns-in-Ok
returns-in-Ok c =
    IfOk-map c.job_line_numbers.result _ _
    (λ lines are. are ∙ (ap job_lines c.in-Ok.ensures.cases.0 ∙ sym (lines_of_text c.args.text.now c.in-Ok.ensures.cases.1)))
    c.job_line_numbers.ensures.lines

pub returns-in-Err : goal.returns-in-Err
returns-in-Err c =
    c.new.ensures.items
    ∙ sym (no_lines c.args.text.now (is_utf8 c.args.text.now) refl c.in-Err.ensures.cases.0)
