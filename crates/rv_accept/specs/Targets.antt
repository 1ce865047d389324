-- The golden files that accepted jobs name, and what happens to them.
use Rattle.std.specs.Prelude.{◌&&◌, Bool, false, not, ℕ, List, [], ◌∷◌, ◌++◌, Option, Some, if◌then◌else◌, slice_get}
use Rattle.std.specs.List.{list_any}
use Rattle.std.specs.Str.{bytes_eq}
use Rattle.rv_accept.specs.GoldenOutcomes.{outcome_of_golden_file}
use Rattle.rv_accept.specs.Runs.{is_accepted_run}
use Rattle.rv_accept.specs.declared.golden_texts.GoldenText.{GoldenText}
use Rattle.rv_accept.specs.declared.runs.JobRun.{JobRun}
use Rattle.rv_accept.specs.declared.targets.Target.{Target}

-- whether the job was run, and its run is accepted
abbrev pub is_accepted_entry : Option (Option JobRun) → Bool
is_accepted_entry (Some (Some run)) = is_accepted_run run
is_accepted_entry _ = false

-- whether the golden file at this path is among the targets
abbrev pub has_target : List ℕ → List Target → Bool
has_target path targets = list_any (λ target. bytes_eq path target.path) targets

-- the file of a golden text, with what happens to it
abbrev pub target_of : List GoldenText → GoldenText → Target
target_of golden_texts golden_text = record {
  path = golden_text.path;
  job = golden_text.job;
  kind = golden_text.kind;
  outcome = outcome_of_golden_file golden_text.path golden_texts;
}

-- the targets with the file of this golden text added, if the text's job is accepted and the file is not among them
abbrev pub with_target : List (Option JobRun) → List GoldenText → List Target → GoldenText → List Target
with_target runs golden_texts targets golden_text =
    if is_accepted_entry (slice_get runs golden_text.job) && not (has_target golden_text.path targets)
    then targets ++ target_of golden_texts golden_text ∷ [] else targets
