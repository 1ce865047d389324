-- The run is counted in addition to the others.
use Rattle.std.proofs.Common.{refl, sym}
use Rattle.rv_trace.specs.Machine.{state_of}
use Rattle.rv_counting.specs.Counters.{counts_of}
use Rattle.rv_counting.proofs.RunCounts.{adds_run}
use Rattle.rv_counting.proofs.runs_counter.RunsCounter.count_run.Goals as goal

pub follow_run-requires-clause-valid : goal.follow_run-requires-clause-valid
follow_run-requires-clause-valid c = c.refetch.ensures.valid (state_of c.args.machine) (sym c.bus.ensures)

pub returns-clause-counted : goal.returns-clause-counted
returns-clause-counted c =
    adds_run c.args.budget c.refetch.new.self.generation (state_of c.args.machine) (counts_of c.args.self.now.counter) c.args.self.now _
    c.ranges.budget.fits c.requires.ready refl c.refetch.ensures.generation c.in_ok-run.ensures.counted refl
