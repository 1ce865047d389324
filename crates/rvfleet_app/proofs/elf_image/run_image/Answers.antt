use Rattle.std.proofs.Common.{◌∙◌, ap, rules}
use Rattle.rv_fleet.specs.Plans.{paths_used}
use Rattle.rvfleet_app.proofs.Answering.{jobs_reported}
use Rattle.rvfleet_app.specs.ElfImage.{single_image_jobs}
use Rattle.rvfleet_app.proofs.elf_image.run_image.Goals as goal

pub returns-clause-reported : goal.returns-clause-reported
returns-clause-reported g c =
    let plan = c.in_ok-plan in
    let list = c.in_ok-jobs.ensures in
    jobs_reported c.send_report.result _ (single_image_jobs c.args.run.path.now c.args.run.budget c.args.run.script.items) plan.plan
    c.in_ok-report.report.rows _ _ (record {
      jobs = plan.ensures.jobs ∙ list;
      paths = plan.ensures.paths ∙ ap paths_used list;
      results_agree = plan.ensures.agree;
      faults = plan.ensures.faults;
    }) (search rules) c.send_report.ensures.reported
