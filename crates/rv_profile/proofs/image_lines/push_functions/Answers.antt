use Rattle.std.proofs.Common.{◌∙◌, List, ap, subst, sym}
use Rattle.rv_profile.specs.Profile.{AreWithin, profiles_of}
use Rattle.rv_profile.specs.Text.{first_or_all}
use Rattle.rv_profile.specs.declared.function.FunctionProfile.{FunctionProfile}
use Rattle.rv_profile.proofs.First.{first_within, functions_put}
use Rattle.rv_profile.proofs.Shown.{on_ok}
use Rattle.rv_profile.proofs.image_lines.push_functions.Goals as goal

pub push_function_lines-requires : goal.push_function_lines-requires
push_function_lines-requires c =
    subst (λ (fs : List FunctionProfile). AreWithin c.args.profile.now.sums.steps (profiles_of fs))
    (sym (c.first_or_all-shown.ensures ∙ ap (first_or_all c.args.top) c.as_slice-functions.ensures.value))
    (first_within c.args.top c.args.profile.now.sums.steps c.args.profile.now.functions.items c.args.profile.now.within)

pub returns : goal.returns
returns c =
    on_ok c.push_more_line.result _ _
    (functions_put c.args.top c.args.profile.now.sums c.args.profile.now.functions.items c.as_slice-functions.result.now
    c.first_or_all-shown.result.now c.in_ok-columns.columns c.args.bytes.now.items c.push_column_header.new.bytes.items
    c.push_function_lines.new.bytes.items c.push_more_line.new.bytes.items
    (sym c.is_empty.ensures ∙ c.if-is_empty.false) c.in_ok-columns.ensures c.as_slice-functions.ensures.value
    (c.first_or_all-shown.ensures ∙ ap (first_or_all c.args.top) c.as_slice-functions.ensures.value)
    c.in_ok-push_column_header.ensures c.in_ok-push_function_lines.ensures)
    c.push_more_line.ensures
