-- The counts that a table has of images, which are identified by the SHA-256 digests of their files.
use Rattle.std.specs.Prelude.{◌&&◌, ℕ, Bool, List, [], Option, find, not, option_map}
use Rattle.std.specs.List.{list_any}
use Rattle.std.specs.Option.{option_map_or}
use Rattle.std.specs.Str.{bytes_eq}
use Rattle.sha2.specs.Sha256.{sha256}
use Rattle.rv_count_tables.specs.declared.table.AddressCounts.{AddressCounts}
use Rattle.rv_count_tables.specs.declared.table.CountTable.{CountTable}
use Rattle.rv_count_tables.specs.declared.table.ImageCounts.{ImageCounts}
use Rattle.rv_count_tables.specs.Printable.{printable_text}
use Rattle.rv_cover_view.specs.JobImages.{ImageFileView}

-- whether an image of a table has this digest
abbrev pub is_of_digest : List ℕ → ImageCounts → Bool
is_of_digest digest entry = bytes_eq entry.digest digest

-- a table's entry for the image with these bytes, which is identified by its digest, or `None` if the table does not have the image
abbrev pub entry_of_image : CountTable → List ℕ → Option ImageCounts
entry_of_image table bytes = find (is_of_digest (sha256 bytes)) table.images

-- a table's counts of the image with these bytes, which is identified by its digest; empty if the table does not have the image
abbrev pub counts_of : CountTable → List ℕ → List AddressCounts
counts_of table bytes = option_map_or (λ entry. entry.addresses) (entry_of_image table bytes) []

-- whether a table has another image with this image's path, and none with its bytes
abbrev pub has_other_image_at_path : CountTable → ImageFileView → Bool
has_other_image_at_path table image = not (list_any (is_of_digest (sha256 image.bytes)) table.images)
    && list_any (λ entry. bytes_eq entry.path (printable_text image.path)) table.images

-- the path of the first of these images for which the table has another image with this path, and none with these bytes; `None` if there is
-- no such image
abbrev pub other_image : CountTable → List ImageFileView → Option (List ℕ)
other_image table images = option_map (λ image. image.path) (find (has_other_image_at_path table) images)
