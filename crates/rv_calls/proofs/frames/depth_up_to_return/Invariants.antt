use Rattle.std.specs.Prelude.{◌==◌, not}
use Rattle.rv_calls.specs.declared.frames.Frame.{Frame}
use Rattle.rv_calls.proofs.Depths.{PassFrom}
use Rattle.rv_calls.proofs.frames.depth_up_to_return.Given as goal

abbrev pub invariant-loop-depth : goal.invariant-loop-depth
invariant-loop-depth l = PassFrom (λ (f : Frame). not (f.return_address == l.to)) l.frames l.depth

abbrev pub decreases-loop-depth : goal.decreases-loop-depth
decreases-loop-depth l = l.depth
