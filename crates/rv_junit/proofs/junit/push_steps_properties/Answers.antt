use Rattle.std.proofs.Common.{◌++◌, List, ℕ, append_assoc, codes, string_bytes}
use Rattle.std.specs.List.{flat_map}
use Rattle.rv_junit.specs.Junit.{steps_properties, steps_property}
use Rattle.rv_junit.proofs.CaseTexts.{written}
use Rattle.rv_job_text.proofs.Public.{ended, more, told}
use Rattle.rv_junit.proofs.junit.push_steps_properties.Goals as goal

pub returns : goal.returns
unfolding steps_properties
returns c =
    let old = string_bytes c.args.text.now in
    let begun = string_bytes c.push_str.new.self in
    let mid = string_bytes c.push_each_steps_property.new.text in
    let new = string_bytes c.push_str-2.new.self in
    let begin : List ℕ = codes "<properties>\n" in
    let each : List ℕ = flat_map steps_property c.args.rows.now in
    let end : List ℕ = codes "</properties>\n" in
    told c.push_str-2.result old new ((begin ++ each) ++ end) _ (append_assoc begin each end)
    (ended c.push_str-2.result old mid new (begin ++ each) end
    (more old begun mid begin each c.in_ok-push_str.ensures.bytes c.in_ok-push_each_steps_property.ensures)
    (written c.push_str-2.result new (mid ++ end) mid c.push_str-2.ensures.bytes))
