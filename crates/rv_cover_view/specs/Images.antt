-- The coverage of an image, from the counts of its addresses.
use Rattle.std.specs.Prelude.{◌≡◌, ℕ, List, map}
use Rattle.rv_count_tables.specs.declared.table.AddressCounts.{AddressCounts}
use Rattle.rv_elf.specs.Functions.{FunctionView, functions}
use Rattle.rv_elf.specs.declared.image.Image.{Image}
use Rattle.rv_cover_view.specs.Cover.{totals_of, never_run}
use Rattle.rv_cover_view.specs.Functions.{IsEachOnce, view_of_function}
use Rattle.rv_cover_view.specs.declared.image_cover.ImageCover.{ImageCover}

-- `cover` is the coverage of the image with this path: its totals, and its functions that never ran; of several functions at one address,
-- only the first is considered
pub record IsCoverOf (path : List ℕ) (image : Image) (file : List ℕ) (counts : List AddressCounts) (cover : ImageCover) : Type 0 where
  pub found : List FunctionView
  pub once : IsEachOnce (functions image file) found
  pub shown : cover.path.now ≡ path
  pub totals : cover.totals ≡ totals_of counts found
  pub never_run_functions : map view_of_function cover.never_run.items ≡ never_run counts found
