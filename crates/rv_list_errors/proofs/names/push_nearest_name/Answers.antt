use Rattle.std.specs.Prelude.{codes, None, Some}
use Rattle.rv_list_errors.specs.FaultHeads.{borrowed_names}
use Rattle.rv_list_errors.specs.NearNames.{IsNearName, names_text, present, quoted}
use Rattle.rv_list_errors.specs.Explanation.{IsJobNameSuggestion}
use Rattle.std.proofs.Common.{refl, ◌++◌}
use Rattle.rv_list_errors.proofs.Messages.{adds_then, look_then}
use Rattle.rv_list_errors.proofs.names.push_nearest_name.Goals as goal

pub returns-in-Some : goal.returns-in-Some
returns-in-Some c =
    let names = borrowed_names c.args.names.now in
    let wanted = c.args.text.now in
    let name = c.in-Some.name.now in
    look_then c.args.message.now c.near_name.new.message c.push_quoted.new.self (IsNearName names wanted (Some name))
    (IsJobNameSuggestion names wanted) (codes "; a similar name exists: " ++ quoted name) (rw c.in-Some.is at c.near_name.ensures.near)
    c.near_name.ensures.unchanged (adds_then c.near_name.new.message c.push.new.self c.push_quoted.new.self
    (codes "; a similar name exists: ") (quoted name) c.push.ensures c.push_quoted.ensures) (λ near. (Some name, near, refl))

pub returns-in-None : goal.returns-in-None
returns-in-None c =
    let names = borrowed_names c.args.names.now in
    let wanted = c.args.text.now in
    look_then c.args.message.now c.near_name.new.message c.push_names.new.message (IsNearName names wanted None)
    (IsJobNameSuggestion names wanted) (codes "; the earlier jobs are " ++ names_text (present names))
    (rw c.in-None.is at c.near_name.ensures.near) c.near_name.ensures.unchanged
    (adds_then c.near_name.new.message c.push-in-None.new.self c.push_names.new.message
    (codes "; the earlier jobs are ") (names_text (present names)) c.push-in-None.ensures c.push_names.ensures)
    (λ near. (None, near, refl))
