-- The images of jobs, one for each file.
use Rattle.std.specs.Prelude.{◌≤◌, ◌++◌, ℕ, if◌then◌else◌, List, [], ◌∷◌, Option, Some, IfSome, length, map, option_and_then, option_map}
use Rattle.std.specs.List.{fold, list_any}
use Rattle.std.specs.Option.{option_map_or}
use Rattle.std.specs.Str.{bytes_eq}
use Rattle.rv_count_tables.specs.Limits.{max_file_size}
use Rattle.rv_elf.specs.declared.image.Image.{Image}
use Rattle.rv_counting.specs.declared_answers.PathResult.{PathResult}
use Rattle.rv_counting.specs.declared_job.Job.{Job}
use Rattle.rv_counting.specs.Rows.{image_if_read}
use Rattle.rv_cover_view.specs.declared.image_file.ImageFile.{ImageFile}
use Rattle.rv_counting.specs.Trace.{image_bytes}

-- an image file of a list: its path in the list, its bytes, and the image that they encode
pub record ImageFileView : Type 0 where
  pub path : List ℕ
  pub bytes : List ℕ
  pub image : Image

-- the image of a job, or `None` if its file was not read or is not a valid image
abbrev pub image_of_job : List PathResult → Job → Option ImageFileView
image_of_job answers job = option_and_then (λ bytes. option_map (λ image. record { path = job.image; bytes = bytes; image = image })
    (image_if_read job.isa (Some bytes))) (image_bytes answers job)

-- the images with this one appended, or unchanged if one of them has equal bytes
abbrev pub with_image : List ImageFileView → ImageFileView → List ImageFileView
with_image images image =
    if list_any (λ other. bytes_eq image.bytes other.bytes) images then images else images ++ image ∷ []

-- the images with the image of a job appended, or unchanged if the job has no image or one of them has equal bytes
abbrev pub with_image_of : List PathResult → List ImageFileView → Job → List ImageFileView
with_image_of answers images job = option_map_or (with_image images) (image_of_job answers job) images

-- the images of jobs, in job order; images with equal bytes occur once, with the path that the first of their jobs gives
abbrev pub images_of : List PathResult → List Job → List ImageFileView
images_of answers jobs = fold (with_image_of answers) [] jobs

-- every image file that was read is within the limit on the size of files
abbrev pub AreSmall : List PathResult → Type 0
AreSmall answers = (job : Job) → IfSome (image_bytes answers job) (λ bytes. length bytes ≤ max_file_size)

-- ---- conversion of the code's types

-- an image file, converted from the type of the code to the record that contracts use
abbrev pub image_of_file : ImageFile → ImageFileView
image_of_file file = record { path = file.path.now; bytes = file.bytes.now; image = file.image }

-- the image files, converted from the type of the code to the records that contracts use, in order
abbrev pub images_of_files : List ImageFile → List ImageFileView
images_of_files files = map image_of_file files
