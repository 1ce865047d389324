use Rattle.std.proofs.Common.{◌∙◌, ◌++◌, Bool, List, ap, cond, sym}
use Rattle.rv_profile.specs.Csv.{csv_rows}
use Rattle.rv_profile.specs.Profile.{FunctionCounts, profiles_of}
use Rattle.rv_profile.specs.Text.{first_or_all, image_lines}
use Rattle.rv_profile.proofs.First.{first_profiles}
use Rattle.rv_profile.proofs.Shown.{on_ok}
use Rattle.rv_profile.proofs.images_text.push_image_profile.Goals as goal

pub returns-then-format : goal.returns-then-format
returns-then-format c =
    let functions = c.args.profile.now.functions.items in
    let ps = profiles_of functions in
    on_ok c.push_csv_rows.result _ _
    (λ put. put
    ∙ ap (λ (shown : List FunctionCounts). c.args.text.now.items ++ csv_rows c.args.path.now shown)
    (ap profiles_of (c.first_or_all-functions.ensures ∙ ap (first_or_all c.args.format.top) c.as_slice.ensures.value)
    ∙ sym (first_profiles c.args.format.top functions))
    ∙ ap (λ (csv : Bool). c.args.text.now.items ++ cond csv (csv_rows c.args.path.now (first_or_all c.args.format.top ps))
    (image_lines c.args.format.top c.args.path.now c.args.profile.now.sums ps)) (sym c.if-format.true))
    c.push_csv_rows.ensures
