use Rattle.std.proofs.Common.{rules}
use Rattle.rvfleet_app.proofs.Answering.{jobs_reported}
use Rattle.rvfleet_app.proofs.list.run_jobs.Goals as goal

pub returns-clause-reported : goal.returns-clause-reported
returns-clause-reported g c =
    let plan = c.in_ok-plan in
    jobs_reported c.send_report.result _ _ plan.plan c.in_ok-report.report.rows _ _ (record {
      jobs = plan.ensures.jobs;
      paths = plan.ensures.paths;
      results_agree = plan.ensures.agree;
      faults = plan.ensures.faults;
    }) (search rules) c.send_report.ensures.reported
