use Rattle.std.proofs.Common.{◌≡◌, ◌∙◌, true, sym}
use Rattle.rv_base.specs.Names.{is_name}
use Rattle.rv_report.proofs.FieldLoops.{name_is_text, ok_mono}
use Rattle.rv_report.proofs.Spelled.{same_name}
use Rattle.rv_report.proofs.fields.name_or_dash.Goals as goal

pub returns-then-is_name : goal.returns-then-is_name
returns-then-is_name c =
    let text = c.args.text.now in
    let is : is_name text ≡ true = sym c.is_name.ensures ∙ c.if-is_name.true in
    ok_mono _ _ c.from_utf8_lossy.result (λ t h. h (name_is_text text is)
    ∙ sym (same_name text is)) c.from_utf8_lossy.ensures.ok
