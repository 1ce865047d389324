-- The coverage report of images, from a table's counts: a header, and then the coverage of each image.
use Rattle.std.specs.Prelude.{◌≡◌, ◌++◌, ℕ, Bool, false, true, if◌then◌else◌, List, [], ◌∷◌, map}
use Rattle.rv_count_tables.specs.declared.table.CountTable.{CountTable}
use Rattle.rv_cover_view.specs.Csv.{csv_header, csv_row}
use Rattle.rv_cover_view.specs.Functions.{view_of_function}
use Rattle.rv_cover_view.specs.ImageCounts.{counts_of}
use Rattle.rv_cover_view.specs.Images.{IsCoverOf}
use Rattle.rv_cover_view.specs.JobImages.{ImageFileView}
use Rattle.rv_cover_view.specs.Text.{cover_header, image_line, never_run_line}
use Rattle.rv_cover_view.specs.declared.image_cover.ImageCover.{ImageCover}

-- the coverage of an image: a CSV row if the first argument is true, or else a line with its totals and, if there are any, a line with the
-- functions that never ran
abbrev pub image_text : Bool → ImageCover → List ℕ
image_text true cover = csv_row cover.path.now cover.totals
image_text false cover = image_line cover.path.now cover.totals ++ never_run_line (map view_of_function cover.never_run.items)

-- the header of the report: the CSV header if `csv` is true, or else the heading of a table for people
abbrev pub header_text : Bool → List ℕ
header_text csv = if csv then csv_header else cover_header

-- the text is the coverage of an image, according to a table's counts: a CSV row if `csv` is true, or else lines for people
abbrev pub IsImageCoverText : Bool → CountTable → ImageFileView → List ℕ → Type 0
IsImageCoverText csv table image text = (cover : ImageCover)
    × (IsCoverOf image.path image.image image.bytes (counts_of table image.bytes) cover × (text ≡ image_text csv cover))

-- the text is the coverage of each image, in order, according to a table's counts: CSV rows if `csv` is true, or else lines for people
abbrev pub AreImageCoverTexts : Bool → CountTable → List ImageFileView → List ℕ → Type 0
AreImageCoverTexts csv table [] text = text ≡ []
AreImageCoverTexts csv table (image ∷ images) text = (first : List ℕ) × (IsImageCoverText csv table image first
    × ((rest : List ℕ) × (AreImageCoverTexts csv table images rest × (text ≡ first ++ rest))))

-- the text is the coverage report of images, according to a table's counts: a header, and then each image, in order, as CSV if `csv` is
-- true, or else for people
abbrev pub IsCoverText : Bool → CountTable → List ImageFileView → List ℕ → Type 0
IsCoverText csv table images text = (lines : List ℕ) × (AreImageCoverTexts csv table images lines × (text ≡ header_text csv ++ lines))
