-- Why `counts` stops early.
use Rattle.std.specs.Prelude.{◌≡◌, ◌⊎◌, ◌++◌, ◌∷◌, ℕ, List, Option, codes}
use Rattle.std.specs.Borrow.{Bor}
use Rattle.rv_files.specs.Files.{FileContents}
use Rattle.rvtest_cli.specs.declared.counts.CountsArgs.{CountsArgs}
use Rattle.rv_command.specs.Messages.{path_message, path_number_message}
use Rattle.rv_command.specs.Stops.{IsStop, IsResultUnreadStop}
use Rattle.rv_command.specs.Texts.{IsTextAt, optional_text}
use Rattle.rv_command.specs.declared.stop.Stop.{Stop}
use Rattle.rv_command.specs.declared.stop.Stop.TheVariants as stops
use Rattle.rv_count_tables.specs.Read.{IsFirstError}
use Rattle.rv_count_tables.specs.Sum.{HaveNoSum, no_counts}
use Rattle.rv_count_tables.specs.Table.{IsValidTable}
use Rattle.rv_count_tables.specs.Text.{table_text}
use Rattle.rv_count_tables.specs.declared.read.ReadError.{ReadError}
use Rattle.rv_count_tables.specs.declared.read.ReadError.TheVariants as read_error
use Rattle.rv_count_tables.specs.declared.sum.SumError.{SumError}
use Rattle.rv_count_tables.specs.declared.sum.SumError.TheVariants as sum_error
use Rattle.rv_count_tables.specs.declared.table.CountTable.{CountTable}
use Rattle.rv_job_text.specs.Printable.{printable_text}
use Rattle.rv_job_text.specs.TextWords.{word_digits}
use Rattle.rv_stacks.specs.declared.batch.CountError.{CountError}
use Rattle.rv_stacks.specs.declared.batch.CountError.TheVariants as count
use Rattle.rvtest_app.specs.CountSums.{AreTablesAdded, IsTableAt}
use Rattle.rvtest_app.specs.Crews.{stop_of_run_error}
use Rattle.rvtest_app.specs.Overwrites.{IsSumOverwriteStop}
use Rattle.rvtest_app.specs.WrittenTexts.{IsTextNotWrittenAtStop, written_path}

-- why a command stopped: reading the table of counts at the path ended with this error
abbrev pub IsReadErrorStop : List ℕ → ReadError → Stop → Type 0
IsReadErrorStop path read_error.OutOfMemory stop = stop ≡ stops.OutOfMemory
IsReadErrorStop path (read_error.Line line) stop =
    IsStop 2 (path_number_message path (codes ":") line (codes ": invalid line in a table of counts\n")) stop
IsReadErrorStop path read_error.Truncated stop = IsStop 2 (path_message path (codes "the table is truncated")) stop

-- the message for a count at `address` that no longer fits in 64 bits after the table at the path is added; `count_name` says which count
abbrev pub count_overflow_message : List ℕ → List ℕ → ℕ → List ℕ
count_overflow_message path count_name address = codes "rvtest: " ++ printable_text path ++ count_name ++ word_digits address
    ++ codes " does not fit in 64 bits\n"

-- the message for a table whose name for the function at this address differs from the name in an earlier table
abbrev pub two_names_message : List ℕ → ℕ → List ℕ
two_names_message path function = codes "rvtest: " ++ printable_text path ++ codes ": the function at " ++ word_digits function
    ++ codes " has two names in one image\n"

-- why a command stopped: adding the table at the path to the sum of the earlier tables ended with this error
abbrev pub IsSumErrorStop : List ℕ → SumError → Stop → Type 0
IsSumErrorStop path sum_error.OutOfMemory stop = stop ≡ stops.OutOfMemory
IsSumErrorStop path (sum_error.Count address) stop = IsStop 2 (count_overflow_message path (codes ": the count at ") address) stop
IsSumErrorStop path (sum_error.Node function) stop =
    IsStop 2 (count_overflow_message path (codes ": a stack count of the function at ") function) stop
IsSumErrorStop path (sum_error.Names function) stop = IsStop 2 (two_names_message path function) stop
IsSumErrorStop path sum_error.Runs stop = IsStop 2 (path_message path (codes "the number of runs does not fit in 64 bits")) stop

-- why a command stopped: counting jobs with call stacks ended with this error; if counts cannot be added up, the message names `path`
abbrev pub IsCountErrorStop : List ℕ → CountError → Stop → Type 0
IsCountErrorStop path (count.Run error) stop = stop ≡ stop_of_run_error error
IsCountErrorStop path (count.Sum error) stop = IsSumErrorStop path error stop

-- why a command stopped: `text` is not a valid table of counts, and its first error is reported, or memory ran out
pub record IsTableFaultStop (path text : List ℕ) (stop : Stop) : Type 0 where
  pub reported : (error : ReadError) × (IsFirstError error text × IsReadErrorStop path error stop)
  pub valid_table : (table : CountTable) → IsValidTable table → table_text table ≡ text → stop ≡ stops.OutOfMemory

-- why a command stopped: the table of counts at the path is valid, but cannot be added to `before`, the sum of the earlier tables
abbrev pub IsSumOverflowStop : Option FileContents → List ℕ → CountTable → Stop → Type 0
IsSumOverflowStop contents path before stop = (table : CountTable) × (IsTableAt contents path table
    × ((error : SumError) × (HaveNoSum error before table × IsSumErrorStop path error stop)))

-- why a command stopped: the table of counts at the path could not be read, is invalid, or cannot be added to `before`, the sum of the
-- earlier tables
abbrev pub IsTableNotAddedStop : Option FileContents → List ℕ → CountTable → Stop → Type 0
IsTableNotAddedStop contents path before stop = IsResultUnreadStop contents path stop
    ⊎ (((text : List ℕ) × (IsTextAt contents path text × IsTableFaultStop path text stop))
    ⊎ IsSumOverflowStop contents path before stop)

-- why a command stopped: the tables at the first paths were added up, but the table at the next path could not be added
pub record IsSumStop (contents : Option FileContents) (paths : List (Bor (List ℕ))) (stop : Stop) : Type 0 where
  pub before : List (Bor (List ℕ))
  pub path : Bor (List ℕ)
  -- the paths after `path`
  pub later_tables : List (Bor (List ℕ))
  pub sum : CountTable
  pub listed : paths ≡ before ++ path ∷ later_tables
  pub added : AreTablesAdded contents before no_counts sum
  pub stopped : IsTableNotAddedStop contents path.now sum stop

-- why `counts` stopped: the sum would overwrite a table, memory ran out, a table could not be added, or the sum could not be written
abbrev pub IsCountsStop : Option FileContents → CountsArgs → Stop → Type 0
IsCountsStop contents args stop = IsSumOverwriteStop args stop ⊎ ((stop ≡ stops.OutOfMemory) ⊎ (IsSumStop contents args.tables.items stop
    ⊎ ((sum : CountTable) × (AreTablesAdded contents args.tables.items no_counts sum
    × IsTextNotWrittenAtStop (written_path (optional_text args.out)) stop))))
