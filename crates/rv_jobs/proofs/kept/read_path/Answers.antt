use Rattle.rv_jobs.proofs.kept.read_path.Goals as goal

pub returns-in-Ok-clause-faults_counted : goal.returns-in-Ok-clause-faults_counted
returns-in-Ok-clause-faults_counted g c = c.in-Ok.ensures.counted

pub returns-in-Err-Unreadable-clause-faults_counted : goal.returns-in-Err-Unreadable-clause-faults_counted
returns-in-Err-Unreadable-clause-faults_counted g c =
    rw c.in-Err-Unreadable.field-0-is at c.in-Err-Unreadable.ensures.counted

pub returns-in-Err-TooLong-clause-faults_counted : goal.returns-in-Err-TooLong-clause-faults_counted
returns-in-Err-TooLong-clause-faults_counted g c =
    rw c.in-Err-TooLong.field-0-is at c.in-Err-TooLong.ensures.counted
