use Rattle.rv_list_errors.specs.FaultHeads.{borrowed_names, job_number_and_name}
use Rattle.rv_list_errors.specs.LocatedFaults.{location_text}
use Rattle.rv_list_errors.proofs.FaultLineWriter.{head_in_parts}
use Rattle.rv_list_errors.proofs.all_faults.FaultLineWriter.located_message.Goals as goal

pub returns-clause-message : goal.returns-clause-message
returns-clause-message c =
    let self = c.args.self.now in
    let fault = c.args.fault.now in (
      fault.explanation.items,
      rw (
        c.in_ok-extend_from_slice.ensures.items,
        c.as_slice.ensures.value,
        c.in_ok-push_job_number_and_name.ensures,
        c.in_ok-push_line_and_column.ensures,
        c.in_ok-push_text.ensures,
        c.new-message.ensures.items,
        c.location_at-location.ensures.line,
        c.location_at-location.ensures.column,
      )
          (head_in_parts self.file.now (location_text fault.offset self.cursor.text.now)
          (job_number_and_name (borrowed_names self.list.names.items) c.args.number) fault.explanation.items),
    )
