use Rattle.std.proofs.Common.{◌≡◌, [], drop, take}
use Rattle.rv_expect.specs.KnownJobs.{first_fault, job_names, known_in}
use Rattle.rv_expect.specs.KnownLines.{borrowed_lines}
use Rattle.rv_expect.proofs.known_reader.read_lines.Given as goal

-- the known jobs are those of the lines so far, and the first fault is among the lines that are left
abbrev pub invariant-loop-place : goal.invariant-loop-place
invariant-loop-place l = record {
  known : l.known.items ≡ known_in (take l.place (borrowed_lines l.lines));
  fault : first_fault (job_names l.jobs) (take l.place (borrowed_lines l.lines)) (drop l.place (borrowed_lines l.lines))
      ≡ first_fault (job_names l.jobs) [] (borrowed_lines l.lines);
}
