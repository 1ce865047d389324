-- The rows so far stand behind the text that there was.
use Rattle.std.proofs.Common.{◌≡◌, ◌++◌, take}
use Rattle.rv_profile.specs.Csv.{csv_rows}
use Rattle.rv_profile.specs.Profile.{profiles_of}
use Rattle.rv_profile.proofs.csv.push_csv_rows.Given as goal

abbrev pub invariant-loop-function : goal.invariant-loop-function
invariant-loop-function l = l.bytes.items ≡ l.fn.bytes.items ++ csv_rows l.path (profiles_of (take l.function-index l.functions))
