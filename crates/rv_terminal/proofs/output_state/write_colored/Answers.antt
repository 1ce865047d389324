use Rattle.std.proofs.Common.{ap, arith, length-drop, length-take, refl, ℕ, ◌∙◌, ◌≤◌}
use Rattle.std.proofs.KnownBytes.{Appends-nil}
use Rattle.rv_rows.specs.Counts.{one_more}
use Rattle.rv_terminal.specs.Colors.{colored}
use Rattle.rv_terminal.proofs.Counting.{some_put}
use Rattle.rv_terminal.proofs.Pieces.{next_piece, next_place}
use Rattle.rv_terminal.proofs.output_state.write_colored.Goals as goal

pub loop-at-init : goal.loop-at-init
unfolding colored
loop-at-init g c = record {
  within = omega arith;
  here = refl;
  shown = Appends-nil (g.S.Sink.accepted c.args.sink.now);
  counted = refl;
}

pub loop-at-preserved : goal.loop-at-preserved
loop-at-preserved g c =
    let invariant = c.loop-at.invariant in
    let bytes = c.args.bytes.now in
    record {
      within = omega (arith, length-take {A = ℕ}, length-drop {A = ℕ}, c.in-Ok.ensures.within);
      here = c.after_bytes-here.ensures
          ∙ next_place c.args.position c.loop-at.here bytes c.loop-at.at c.in-Ok.count invariant.within invariant.here;
      shown = next_piece (g.S.Sink.accepted c.args.sink.now) (g.S.Sink.accepted c.loop-at.sink)
          (g.S.Sink.accepted c.write_span.new.sink) c.args.position c.loop-at.here bytes c.loop-at.at c.in-Ok.count
          invariant.within invariant.here invariant.shown c.in-Ok.ensures.colored;
      counted = c.in-Ok.ensures.no_failed_writes ∙ invariant.counted;
    }

pub returns-in-Err-clause-failure_count : goal.returns-in-Err-clause-failure_count
returns-in-Err-clause-failure_count g c = c.in-Err.ensures.failed_write ∙ ap one_more c.loop-at.invariant.counted

pub returns-clause-failure_count : goal.returns-clause-failure_count
returns-clause-failure_count g c =
    let some : 1 ≤ c.loop-at.at = omega (arith, c.requires, c.loop-at-test.false) in
    rw (some_put c.loop-at.at some) c.loop-at.invariant.counted
