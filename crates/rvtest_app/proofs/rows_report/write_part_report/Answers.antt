use Rattle.rvtest_app.proofs.Numbers.{rising_numbers}
use Rattle.rvtest_app.proofs.rows_report.write_part_report.Goals as goal

pub write_saved_report-requires-clause-increasing : goal.write_saved_report-requires-clause-increasing
write_saved_report-requires-clause-increasing g c = rw (c.new.ensures, c.in_ok-job_numbers.ensures)
    (rising_numbers c.args.chosen.indices.now c.args.chosen.jobs c.args.chosen.at_most_max c.args.chosen.rising
    c.args.chosen.within)
