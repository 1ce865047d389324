-- The sum of the count tables at some paths, and what `counts` writes.
use Rattle.std.specs.Prelude.{◌≡◌, ◌++◌, ◌==◌, ◌+◌, ◌-◌, ◌^◌, if◌then◌else◌, ℕ, List, [], ◌∷◌, Option, Some, codes, length, min}
use Rattle.std.specs.Borrow.{Bor}
use Rattle.std.specs.Fmt.{decimal}
use Rattle.rv_files.specs.Files.{FileContents}
use Rattle.rvtest_cli.specs.declared.counts.CountsArgs.{CountsArgs}
use Rattle.rv_command.specs.Texts.{IsTextAt, optional_text}
use Rattle.rv_count_tables.specs.Sum.{IsSumOfTables, no_counts}
use Rattle.rv_count_tables.specs.Table.{IsValidTable}
use Rattle.rv_count_tables.specs.Text.{table_text}
use Rattle.rv_count_tables.specs.declared.table.AddressCounts.{AddressCounts}
use Rattle.rv_count_tables.specs.declared.table.CountTable.{CountTable}
use Rattle.rv_count_tables.specs.declared.table.ImageCounts.{ImageCounts}
use Rattle.rvtest_app.specs.CommandOutputs.{IsOnlyErrorOutput, CommandOutputs}
use Rattle.rvtest_app.specs.WrittenTexts.{IsWrittenAt, written_path}

-- the file at the path contains exactly the text of the valid table of counts `table`
abbrev pub IsTableAt : Option FileContents → List ℕ → CountTable → Type 0
IsTableAt contents path table = IsValidTable table × IsTextAt contents path (table_text table)

-- the table `after` is the sum of the table `before` and the table of counts at the path
abbrev pub IsTableAdded : Option FileContents → List ℕ → CountTable → CountTable → Type 0
IsTableAdded contents path before after = (table : CountTable) × (IsTableAt contents path table × IsSumOfTables before table after)

-- the table `after` is the sum of the table `before` and the tables of counts at the paths
abbrev pub AreTablesAdded : Option FileContents → List (Bor (List ℕ)) → CountTable → CountTable → Type 0
AreTablesAdded contents [] before after = after ≡ before
AreTablesAdded contents (path ∷ paths) before after =
    (next : CountTable) × (IsTableAdded contents path.now before next × AreTablesAdded contents paths next after)

-- the number of instructions executed at these addresses
abbrev pub executed_at_addresses : List AddressCounts → ℕ
executed_at_addresses [] = 0
executed_at_addresses (counts ∷ more) = counts.executed + executed_at_addresses more

-- the number of instructions executed in these images
abbrev pub executed_in_images : List ImageCounts → ℕ
executed_in_images [] = 0
executed_in_images (image ∷ images) = executed_at_addresses image.addresses + executed_in_images images

-- the greatest 64-bit number
abbrev pub max_u64 : ℕ
max_u64 = 2 ^ 64 - 1

-- the number, or the greatest 64-bit number if it does not fit in 64 bits
abbrev pub capped_number : ℕ → ℕ
capped_number number = min number max_u64

-- " run of " for one run, and " runs of " for any other number
abbrev pub run_word : ℕ → List ℕ
run_word count = if count == 1 then codes " run of " else codes " runs of "

-- " image, " for one image, and " images, " for any other number
abbrev pub image_word : ℕ → List ℕ
image_word count = if count == 1 then codes " image, " else codes " images, "

-- "at least " for the greatest 64-bit number, at which the sum saturates; empty for any other number
abbrev pub at_least_prefix : ℕ → List ℕ
at_least_prefix number = if number == max_u64 then codes "at least " else []

-- " instruction" if the count is 1, and otherwise " instructions", followed by a line feed
abbrev pub instruction_word : ℕ → List ℕ
instruction_word count = if count == 1 then codes " instruction\n" else codes " instructions\n"

-- the end of the summary: the number of executed instructions, after "at least" if it is the greatest 64-bit number
abbrev pub instructions_text : ℕ → List ℕ
instructions_text number = at_least_prefix number ++ decimal number ++ instruction_word number

-- the line that summarizes a table of counts: its number of runs, of images and of executed instructions
abbrev pub sum_note : CountTable → List ℕ
sum_note table = decimal table.runs ++ run_word table.runs ++ decimal (length table.images) ++ image_word (length table.images)
    ++ instructions_text (capped_number (executed_in_images table.images))

-- the sum of the tables was written to the path of `--out` or to standard output, and then its summary to standard error
pub record IsSumWritten (contents : Option FileContents) (args : CountsArgs) (status : ℕ) (before after : CommandOutputs) : Type 0 where
  pub sum : CountTable
  pub added : AreTablesAdded contents args.tables.items no_counts sum
  pub between : CommandOutputs
  pub written : IsWrittenAt (Some (written_path (optional_text args.out))) (table_text sum) before between
  pub reported : IsOnlyErrorOutput (sum_note sum) between after
  pub exit_status : status ≡ 0
