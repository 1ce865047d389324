-- Requests to run one image: which of them are rejected, and which job they are for.
use Rattle.std.specs.Prelude.{◌==◌, ◌||◌, ℕ, Bool, true, List, [], ◌∷◌, length, nat_lt, Option}
use Rattle.std.specs.Prelude.{Some, None, Result, Ok, Err}
use Rattle.hex.specs.Hex.{decode_of}
use Rattle.hex.specs.declared.error.FromHexError.{FromHexError}
use Rattle.rv_fleet.specs.declared_job.Job.{Job}
use Rattle.rv_files.specs.Limits.{max_path_len, max_script_len}
use Rattle.rv_fleet.specs.Jobs.{single_job}

-- whether the path is invalid: it is empty, or longer than `max_path_len` bytes
abbrev pub is_bad_path : List ℕ → Bool
is_bad_path path = (length path == 0) || nat_lt max_path_len (length path)

-- the bytes that the hexadecimal digits encode, or the error if they are invalid; without digits, no bytes
abbrev pub script_bytes : Option (List ℕ) → Result (List ℕ) FromHexError
script_bytes None = Ok []
script_bytes (Some digits) = decode_of digits

-- whether the digits are rejected, given the result of decoding them: they are not hexadecimal, or encode more bytes than a console input
-- may have
abbrev pub is_bad_script : Result (List ℕ) FromHexError → Bool
is_bad_script (Ok script) = nat_lt max_script_len (length script)
is_bad_script (Err _) = true

-- whether a request to run an image is rejected: its path or its digits are invalid
abbrev pub is_bad_image_request : List ℕ → Option (List ℕ) → Bool
is_bad_image_request path digits = is_bad_path path || is_bad_script (script_bytes digits)

-- the list with a single job, which has this image path, budget and console input
abbrev pub single_image_jobs : List ℕ → ℕ → List ℕ → List Job
single_image_jobs path budget script = single_job path budget script ∷ []
