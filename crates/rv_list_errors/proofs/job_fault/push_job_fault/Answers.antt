use Rattle.toml.specs.View.{table_view, view}
use Rattle.rv_list_errors.specs.FaultHeads.{borrowed_names}
use Rattle.rv_list_errors.proofs.JobFaultsTold.{told_of_no_table, told_of_table}
use Rattle.rv_list_errors.proofs.Messages.{some_so}
use Rattle.rv_list_errors.proofs.job_fault.push_job_fault.Goals as goal

pub returns-in-Some-as_table : goal.returns-in-Some-as_table
returns-in-Some-as_table c =
    some_so c.args.message.now c.push_fault_of_table.new.message _ _ c.push_fault_of_table.ensures
    (λ told is. told_of_table (borrowed_names c.args.list.now.names.items) _ (view c.in-Some.element.now)
    (table_view c.in-Some-as_table.table.now) c.args.kind told c.in-Some.ensures c.in-Some-as_table.ensures is)

pub returns-in-None-as_table : goal.returns-in-None-as_table
returns-in-None-as_table c =
    some_so c.args.message.now c.push_not_a_table.new.message _ _ c.push_not_a_table.ensures
    (λ told is. told_of_no_table (borrowed_names c.args.list.now.names.items) _ (view c.in-Some.element.now)
    c.args.kind told c.in-Some.ensures c.in-None-as_table.ensures is)
