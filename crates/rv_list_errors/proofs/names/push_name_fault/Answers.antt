use Rattle.std.proofs.Common.{◌∙◌, ◌++◌, ap}
use Rattle.std.specs.Prelude.{codes}
use Rattle.toml.specs.Data.{get_member}
use Rattle.toml.specs.View.{table_view}
use Rattle.rv_list_errors.specs.FaultHeads.{borrowed_names}
use Rattle.rv_list_errors.specs.JobFaults.{ExplainsName, job_of_name_text, number_of_name}
use Rattle.rv_list_errors.specs.Explanation.{IsKeyAndValue}
use Rattle.rv_list_errors.proofs.Messages.{adds_then, some_then}
use Rattle.rv_list_errors.proofs.names.push_name_fault.Goals as goal

pub returns : goal.returns
returns c =
    let key = c.args.key.now in
    let wanted = c.args.expected.now in
    let ms = table_view c.args.table.now in
    let names = borrowed_names c.args.list.now.names.items in
    let text = job_of_name_text c.job_number_of_name.result in
    some_then c.args.message.now c.push_key_and_value.new.message c.push_job_of_name.new.message
    (IsKeyAndValue key (get_member key ms)) (ExplainsName names key wanted ms) (codes ": " ++ (wanted ++ text))
    c.push_key_and_value.ensures
    (adds_then c.push_key_and_value.new.message c.push.new.self c.push_job_of_name.new.message (codes ": ") (wanted ++ text)
    c.push.ensures
    (adds_then c.push.new.self c.push-2.new.self c.push_job_of_name.new.message wanted text c.push-2.ensures
    c.push_job_of_name.ensures))
    (λ met is. (
      met,
      is,
      ap (λ number. met ++ (codes ": " ++ (wanted ++ job_of_name_text number)))
          (c.job_number_of_name.ensures ∙ ap (number_of_name names) c.text_at_key.ensures),
    ))
