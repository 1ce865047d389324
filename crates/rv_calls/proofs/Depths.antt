-- How many frames lie below those at the top that pass a test.
use Rattle.std.proofs.Common.{◌≡◌, ◌+◌, ◌≤◌, ℕ, Bool, List, length, take}
use Rattle.std.specs.List.{suffix_len}
use Rattle.rv_calls.specs.declared.frames.Frame.{Frame}

-- each frame from a depth on passes the test
pub record PassFrom (test : Frame → Bool) (frames : List Frame) (depth : ℕ) : Type 0 where
  pub within : depth ≤ length frames
  pub so_far : depth + suffix_len test frames ≡ length frames + suffix_len test (take depth frames)
