-- The profile report of images, from a table's call trees: a header if the format is CSV, and then the profile of each image.
use Rattle.std.specs.Prelude.{◌≡◌, ◌++◌, ℕ, if◌then◌else◌, List, [], ◌∷◌}
use Rattle.rv_count_tables.specs.declared.table.CountTable.{CountTable}
use Rattle.rv_cover_view.specs.JobImages.{ImageFileView}
use Rattle.rv_profile.specs.Csv.{csv_header, csv_rows}
use Rattle.rv_profile.specs.ImageStacks.{names_of, nodes_of, sums_of}
use Rattle.rv_profile.specs.Profile.{IsProfileOf, FunctionCounts}
use Rattle.rv_profile.specs.Text.{first_or_all, image_lines}
use Rattle.rv_profile.specs.declared.format.ProfileFormat.{ProfileFormat}
use Rattle.rv_profile.specs.declared.sums.Sums.{Sums}

-- the profile of the image with this path: CSV rows, or lines for people, as the format says
abbrev pub image_text : ProfileFormat → List ℕ → Sums → List FunctionCounts → List ℕ
image_text format path sums functions = if format.csv then csv_rows path (first_or_all format.top functions) else image_lines format.top path sums functions

-- the header of the report: the column names if the format is CSV, and otherwise empty
abbrev pub header_text : ProfileFormat → List ℕ
header_text format = if format.csv then csv_header else []

-- `text` is the profile of the image, according to its call tree in the table
pub record IsImageProfileText (format : ProfileFormat) (table : CountTable) (image : ImageFileView) (text : List ℕ) : Type 0 where
  pub functions : List FunctionCounts
  pub profile : IsProfileOf (nodes_of table image.bytes) (names_of table image.bytes) functions
  pub shown : text ≡ image_text format image.path (sums_of (nodes_of table image.bytes)) functions

-- `text` is the profiles of these images, one after another, according to their call trees in the table
abbrev pub AreImageProfileTexts : ProfileFormat → CountTable → List ImageFileView → List ℕ → Type 0
AreImageProfileTexts format table [] text = text ≡ []
AreImageProfileTexts format table (image ∷ images) text = (first : List ℕ) × (IsImageProfileText format table image first
    × ((rest : List ℕ) × (AreImageProfileTexts format table images rest × (text ≡ first ++ rest))))

-- `text` is the profile report of these images: the CSV header if the format is CSV, and then the profile of each image, in order
abbrev pub IsProfileText : ProfileFormat → CountTable → List ImageFileView → List ℕ → Type 0
IsProfileText format table images text = (lines : List ℕ) × (AreImageProfileTexts format table images lines × (text ≡ header_text format ++ lines))
