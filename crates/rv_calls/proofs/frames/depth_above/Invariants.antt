use Rattle.std.specs.Prelude.{nat_le}
use Rattle.rv_calls.specs.declared.frames.Frame.{Frame}
use Rattle.rv_calls.proofs.Depths.{PassFrom}
use Rattle.rv_calls.proofs.frames.depth_above.Given as goal

abbrev pub invariant-loop-depth : goal.invariant-loop-depth
invariant-loop-depth l = PassFrom (λ (f : Frame). nat_le f.sp l.sp) l.frames l.depth

abbrev pub decreases-loop-depth : goal.decreases-loop-depth
decreases-loop-depth l = l.depth
