-- The result of a job before it is copied: its console output and signature are still in the bus.
use Rattle.std.specs.Prelude.{◌≡◌, ⊤, IfSome, option_map}
use Rattle.rv_elf.specs.Rows.{accepted}
use Rattle.rv_elf.specs.Symbols.{signature_check}
use Rattle.rv_rows.specs.declared.outcome.Attempt.{Attempt}
use Rattle.rv_rows.specs.declared.outcome.Attempt.TheVariants.{Refused, RunResult}
use Rattle.rv_rows.specs.declared.outcome.EndedRun.{EndedRun}
use Rattle.rv_rows.specs.declared.outcome.Outcome.{Outcome}
use Rattle.rv_rows.specs.Outcome.{refused_outcome, signature_words_between}

-- the signature of an ended run, if one is requested, is in a valid range of its bus
abbrev pub HasValidRange : EndedRun → Type 0
HasValidRange run = IfSome run.range
    (λ range. signature_check range.begin range.end run.bus.regions ≡ accepted)

-- the outcome of an ended run, read from its bus
abbrev pub outcome_in_bus : EndedRun → Outcome
outcome_in_bus run = record {
  ending = run.ending;
  steps = run.steps;
  console = run.bus.output;
  signature = option_map (signature_words_between run.bus) run.range;
}

-- if the job was run, its signature, if one is requested, can be read from the bus of the run
abbrev pub HasReadableSignature : Attempt → Type 0
HasReadableSignature (Refused why) = ⊤
HasReadableSignature (RunResult run) = HasValidRange run

-- the outcome of this result of a job: of its ended run, or of its refusal
abbrev pub outcome_of_attempt : Attempt → Outcome
outcome_of_attempt (Refused why) = refused_outcome why
outcome_of_attempt (RunResult run) = outcome_in_bus run
