-- Why `merge` stops early.
use Rattle.std.specs.Prelude.{◌≡◌, ◌⊎◌, ◌++◌, ◌∷◌, ℕ, List, Option}
use Rattle.std.specs.Borrow.{Bor}
use Rattle.rv_files.specs.Files.{FileContents}
use Rattle.rvtest_cli.specs.declared.merge.MergeArgs.{MergeArgs}
use Rattle.rv_command.specs.Stops.{IsResultUnreadStop}
use Rattle.rv_command.specs.Texts.{optional_text}
use Rattle.rv_command.specs.declared.stop.Stop.{Stop}
use Rattle.rv_command.specs.declared.stop.Stop.TheVariants as stops
use Rattle.rv_merge.specs.Parts.{AreParts}
use Rattle.rv_rows.specs.declared_row.Row.{Row}
use Rattle.rvtest_app.specs.MergeErrors.{IsPartsErrorStop}
use Rattle.rvtest_app.specs.Merges.{AreTextsAt, merged_report_path}
use Rattle.rvtest_app.specs.Overwrites.{IsMergeOverwriteStop}
use Rattle.rvtest_app.specs.WriteStops.{IsOutputStop}

-- why a command stopped: the reports at the first paths were read, but the report at the next path could not be
pub record IsPartUnreadStop (contents : Option FileContents) (paths : List (Bor (List ℕ))) (stop : Stop) : Type 0 where
  pub before : List (Bor (List ℕ))
  pub path : Bor (List ℕ)
  -- the paths after `path`
  pub later_parts : List (Bor (List ℕ))
  pub texts : List (List ℕ)
  pub listed : paths ≡ before ++ path ∷ later_parts
  pub read : AreTextsAt contents before texts
  pub unread : IsResultUnreadStop contents path.now stop

-- why a command stopped: memory ran out, or one of the reports could not be read
abbrev pub IsPartsUnreadStop : Option FileContents → List (Bor (List ℕ)) → Stop → Type 0
IsPartsUnreadStop contents paths stop = (stop ≡ stops.OutOfMemory) ⊎ IsPartUnreadStop contents paths stop

-- why a command stopped: the report, the JUnit XML or the line of totals could not be written
abbrev pub IsMergeWriteStop : MergeArgs → Stop → Type 0
IsMergeWriteStop args stop = IsOutputStop
    (merged_report_path (optional_text args.report) (optional_text args.junit)) (optional_text args.junit) stop

-- why a command stopped: the texts are not the reports of all shards of one run, or they are, but the merged report could not be written
abbrev pub IsMergeOfTextsStop : MergeArgs → List (List ℕ) → Stop → Type 0
IsMergeOfTextsStop args texts stop = IsPartsErrorStop args.parts.items texts stop
    ⊎ ((rows : List Row) × (AreParts rows texts × IsMergeWriteStop args stop))

-- why `merge` stopped: an output file would overwrite an input, a report could not be read, or the reports could not be merged
abbrev pub IsMergeStop : Option FileContents → MergeArgs → Stop → Type 0
IsMergeStop contents args stop = IsMergeOverwriteStop args stop ⊎ (IsPartsUnreadStop contents args.parts.items stop
    ⊎ ((texts : List (List ℕ)) × (AreTextsAt contents args.parts.items texts × IsMergeOfTextsStop args texts stop)))
