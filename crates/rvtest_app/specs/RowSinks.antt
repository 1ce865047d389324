-- The sink that receives the text of each row of a report while the jobs run.
use Rattle.std.specs.Prelude.{◌≡◌, ℕ, Bool, true, false, List, Option, Some, None, ⊤}
use Rattle.std.specs.Io.KnownBytes.{Appends}
use Rattle.rvtest_app.specs.declared.outlets.Outlet.{Outlet}
use Rattle.rvtest_app.specs.declared.outlets.Outlet.TheVariants as outlet

module _ {V : Type 0} where
  -- the text was written to the sink, if there is one, and no write failed
  abbrev pub AreRowsWritten : (V → Option (List ℕ)) → (V → ℕ) → Option V → Option V → List ℕ → Type 0
  AreRowsWritten accepted failure_count None None text = ⊤
  AreRowsWritten accepted failure_count (Some before) (Some after) text = Appends (accepted before) (accepted after) text × (failure_count after ≡ failure_count before)
  AreRowsWritten accepted failure_count _ _ text = ⊥

  -- what the sink has received; `None` if there is no sink or this is not known
  abbrev pub sink_received : (V → Option (List ℕ)) → Option V → Option (List ℕ)
  sink_received accepted None = None
  sink_received accepted (Some sink) = accepted sink

  -- the number of failed writes to the sink; 0 if there is none
  abbrev pub sink_failures : (V → ℕ) → Option V → ℕ
  sink_failures failure_count None = 0
  sink_failures failure_count (Some sink) = failure_count sink

module _ {P V : Type 0} where
  -- `full_outlet` is the given outlet with the given sink, which is there exactly if the outlet is a file
  abbrev pub AreOutletParts : Outlet P (Unit {0}) → Option V → Outlet P V → Type 0
  AreOutletParts outlet.Nowhere None full_outlet = full_outlet ≡ outlet.Nowhere
  AreOutletParts outlet.Stdout None full_outlet = full_outlet ≡ outlet.Stdout
  AreOutletParts (outlet.File file) (Some sink) full_outlet =
      full_outlet ≡ outlet.File (record { path = file.path; destination = file.destination; sink = sink })
  AreOutletParts _ _ full_outlet = ⊥

  -- whether the outlet is a file
  abbrev pub is_file : Outlet P V → Bool
  is_file outlet.Nowhere = false
  is_file outlet.Stdout = false
  is_file (outlet.File file) = true
