-- The profiles of images as comma-separated values (RFC 4180): a row of column names and a row for each function.
use Rattle.std.specs.Prelude.{◌++◌, ℕ, List, codes}
use Rattle.std.specs.Fmt.{decimal}
use Rattle.std.specs.List.{flat_map}
use Rattle.rv_cover_view.specs.Csv.{csv_field}
use Rattle.rv_count_tables.specs.Numbers.{word_digits}
use Rattle.rv_profile.specs.Profile.{FunctionCounts}

-- the first line of the CSV, with the column names
unfoldable pub csv_header : List ℕ
csv_header = codes "image,function,address,self,inclusive,calls\n"

-- the rest of a CSV row after the function's name: the address and the counts, each preceded by a comma, and a line feed
unfoldable pub csv_numbers : FunctionCounts → List ℕ
csv_numbers counts = codes "," ++ word_digits counts.function ++ codes "," ++ decimal counts.own ++ codes "," ++ decimal counts.inclusive
    ++ codes "," ++ decimal counts.calls ++ codes "\n"

-- the CSV row of a function of the image with this path
unfoldable pub csv_row : List ℕ → FunctionCounts → List ℕ
csv_row path counts = csv_field path ++ codes "," ++ csv_field counts.name ++ csv_numbers counts

-- the CSV rows of these functions of the image with this path
abbrev pub csv_rows : List ℕ → List FunctionCounts → List ℕ
csv_rows path functions = flat_map (csv_row path) functions
