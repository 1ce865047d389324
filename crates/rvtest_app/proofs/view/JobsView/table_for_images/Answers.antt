use Rattle.rvtest_app.proofs.view.JobsView.table_for_images.Goals as goal

pub returns-in-Some-clause-table : goal.returns-in-Some-clause-table
returns-in-Some-clause-table g c = rw c.in-Some.is (rw c.requires.images at c.read_matching_table.ensures.table)

pub returns-in-Some-clause-stopped : goal.returns-in-Some-clause-stopped
returns-in-Some-clause-stopped g c = rw c.in-Some.is (rw c.requires.images at c.read_matching_table.ensures.stopped)

pub returns-in-None-clause-table : goal.returns-in-None-clause-table
returns-in-None-clause-table g c = rw c.in-None.is c.count_jobs.ensures.counts

pub returns-in-None-clause-stopped : goal.returns-in-None-clause-stopped
returns-in-None-clause-stopped g c = rw c.in-None.is c.count_jobs.ensures.stopped
