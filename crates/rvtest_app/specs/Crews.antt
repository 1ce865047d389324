-- The worker threads of a run.
use Rattle.rv_command.specs.declared.stop.Stop.{Stop}
use Rattle.rv_command.specs.declared.stop.Stop.TheVariants as stops
use Rattle.rv_stream.specs.declared_engine.RunError.{RunError}
use Rattle.rv_stream.specs.declared_engine.RunError.TheVariants as run
use Rattle.std.specs.Prelude.{◌≡◌, ◌⊎◌, ◌≤◌, ℕ, max, min, Option, Some, None}

-- `workers` is the requested number of threads, but at least 1 and at most 64; without a request, some number from 1 to 64
abbrev pub AreRequestedWorkers : Option ℕ → ℕ → Type 0
AreRequestedWorkers (Some args) workers = workers ≡ max 1 (min args 64)
AreRequestedWorkers None workers = (1 ≤ workers) × (workers ≤ 64)

-- how many jobs a thread takes at a time: the requested number, but at least 1 and at most 4,096
abbrev pub requested_group : ℕ → ℕ
requested_group args = max 1 (min args 4096)

-- ---- errors of the run engine

-- the stop for an error of the run engine
abbrev pub stop_of_run_error : RunError → Stop
stop_of_run_error run.OutOfMemory = stops.OutOfMemory
stop_of_run_error run.NoWorker = stops.NoWorker

-- why a command stopped: memory ran out, or no thread could be started
abbrev pub IsRunErrorStop : Stop → Type 0
IsRunErrorStop stop = (stop ≡ stops.OutOfMemory) ⊎ (stop ≡ stops.NoWorker)
