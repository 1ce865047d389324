-- Why the counts of a run were not written.
use Rattle.std.specs.Prelude.{◌≡◌, ◌⊎◌, ℕ, List, Option, true}
use Rattle.rvtest_cli.specs.declared.run.RunArgs.{RunArgs}
use Rattle.rv_command.specs.Texts.{optional_text}
use Rattle.rv_command.specs.declared.stop.Stop.{Stop}
use Rattle.rv_command.specs.declared.stop.Stop.TheVariants as stops
use Rattle.rv_stacks.specs.declared.batch.CountError.{CountError}
use Rattle.rvtest_app.specs.CountStops.{IsCountErrorStop}
use Rattle.rvtest_app.specs.Crews.{IsRunErrorStop}
use Rattle.rvtest_app.specs.WriteStops.{IsFileStop}
use Rattle.rvtest_app.specs.WrittenTexts.{written_path}

-- why a command stopped: call stacks are requested, and counting jobs with them ended with an error; if counts cannot be added up, the
-- message names the path of the table, or `-` if none is given
abbrev pub IsStackSumStop : RunArgs → Stop → Type 0
IsStackSumStop args stop = (args.stacks ≡ true)
    × ((error : CountError) × IsCountErrorStop (written_path (optional_text args.counts)) error stop)

-- why a run has no table of counts: memory ran out, no thread could be started, or the counts with call stacks could not be added up
abbrev pub IsUncountedRunStop : RunArgs → Stop → Type 0
IsUncountedRunStop args stop = IsRunErrorStop stop ⊎ IsStackSumStop args stop

-- why a command stopped: memory ran out, no thread could be started, standard output could not be written, the file at the path could not
-- be created, or the counts with call stacks could not be added up
abbrev pub IsCountsWriteStop : RunArgs → Option (List ℕ) → Stop → Type 0
IsCountsWriteStop args path stop =
    IsRunErrorStop stop ⊎ ((stop ≡ stops.WriteFailed) ⊎ (IsFileStop path stop ⊎ IsStackSumStop args stop))
