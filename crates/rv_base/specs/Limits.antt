-- Limits on job lists and files.
use Rattle.std.specs.Prelude.{ℕ, Bool, ◌&&◌, nat_le}

-- whether `n` is from `low` to `high`, both included
abbrev pub is_within : ℕ → ℕ → ℕ → Bool
is_within low high n = nat_le low n && nat_le n high

-- the maximum number of jobs in a list
abbrev pub max_jobs : ℕ
max_jobs = 4096

-- the maximum length of a job's name, in bytes
abbrev pub max_name_len : ℕ
max_name_len = 64

-- the maximum length of a signature symbol's name, in bytes
abbrev pub max_symbol_len : ℕ
max_symbol_len = 255

-- the maximum length of a path, in bytes
abbrev pub max_path_len : ℕ
max_path_len = 4096

-- the maximum number of steps of a job
abbrev pub max_budget : ℕ
max_budget = 1000000000

-- the maximum length of a script, in bytes
abbrev pub max_script_len : ℕ
max_script_len = 65536

-- the maximum length of an expected console text, in bytes
abbrev pub max_console_len : ℕ
max_console_len = 65536

-- the maximum number of threads of a run
abbrev pub max_workers : ℕ
max_workers = 64

-- the maximum number of jobs in a chunk, which a thread takes at a time
abbrev pub max_group : ℕ
max_group = 4096

-- the maximum size of a file that is read, in bytes
abbrev pub max_file_size : ℕ
max_file_size = 16777216
