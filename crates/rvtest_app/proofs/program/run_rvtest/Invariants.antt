use Rattle.rvtest_app.specs.Colors.{requested_colors}
use Rattle.rvtest_app.proofs.program.run_rvtest.Given as goal

abbrev pub ghosts-run_in_colors : goal.ghosts-run_in_colors
ghosts-run_in_colors g a = record {
  colors = requested_colors a.request a.terminals.is_out_colored;
  before = g.O.Sink.accepted a.destinations.out;
}
