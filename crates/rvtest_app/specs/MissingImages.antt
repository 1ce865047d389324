-- The note if the images of all jobs are missing: against which directory relative paths are resolved.
use Rattle.std.specs.Prelude.{◌==◌, ◌&&◌, ◌++◌, ℕ, Bool, true, false, List, [], Option, Some, None, codes, if◌then◌else◌, length}
use Rattle.std.specs.Prelude.{nat_eq, not}
use Rattle.std.specs.List.{list_all, starts_with}
use Rattle.std.specs.Option.{option_map_or}
use Rattle.std.specs.declared.io.ErrorKind.{ErrorKind}
use Rattle.std.specs.declared.io.ErrorKind.TheVariants as kind
use Rattle.rv_files.specs.declared.recording_store.UnreadablePath.{UnreadablePath}
use Rattle.rv_job_text.specs.UnreadFiles.{unread_note}
use Rattle.rv_rows.specs.declared_job.Job.{Job}
use Rattle.rv_rows.specs.Report.{line}
use Rattle.rv_job_text.specs.Printable.{printable_text}

-- whether a file could not be read because it does not exist
abbrev pub is_not_found : ErrorKind → Bool
is_not_found kind.NotFound = true
is_not_found _ = false

-- whether there is an entry and it says that no file exists at the path
abbrev pub is_reported_missing : Option UnreadablePath → Bool
is_reported_missing entry = option_map_or (λ unreadable. is_not_found unreadable.reason) entry false

-- whether the path of the job's image is relative, and there is no file at this path
abbrev pub is_image_missing : List UnreadablePath → Job → Bool
is_image_missing unread job = not (starts_with nat_eq job.image (codes "/")) && is_reported_missing (unread_note unread job.image)

-- whether the image of every job has a relative path at which there is no file
abbrev pub are_images_missing : List Job → List UnreadablePath → Bool
are_images_missing jobs unread = list_all (is_image_missing unread) jobs

-- the text that no image was found, with the directory against which relative paths are resolved: that of `--root`, or else the current one
abbrev pub no_image_found_text : Option (List ℕ) → List ℕ
no_image_found_text None = codes "no image was found: relative paths are resolved against the current directory; use --root DIR to resolve them against DIR"
no_image_found_text (Some root) = codes "no image was found: relative paths are resolved against " ++ printable_text root ++ codes " (--root)"

-- the note of `run` and `accept` that no image was found, if all jobs of the list are run and their images are all missing; otherwise
-- empty. `count` is the number of jobs that are run.
abbrev pub missing_images_note : List Job → List UnreadablePath → ℕ → Option (List ℕ) → List ℕ
missing_images_note jobs unread count root =
    if count == length jobs && are_images_missing jobs unread then codes "rvtest: note: " ++ line (no_image_found_text root) else []

-- if the images of all jobs are missing, the line of `check` that no image was found; otherwise empty
abbrev pub missing_images_line : List Job → List UnreadablePath → Option (List ℕ) → List ℕ
missing_images_line jobs unread root = if are_images_missing jobs unread then line (no_image_found_text root) else []
