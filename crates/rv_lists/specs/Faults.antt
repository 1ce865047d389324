-- The names of a list's errors.
use Rattle.std.specs.Prelude.{ℕ, List, codes}
use Rattle.rv_lists.specs.declared.error.What.{What}
use Rattle.rv_lists.specs.declared.error.What.TheVariants as what

-- the name of an error of a list, as messages show it
abbrev pub job_error_name : What → List ℕ
job_error_name what.NotToml = codes "not-toml"
job_error_name what.NoJobs = codes "no-jobs"
job_error_name what.TooMany = codes "too-many"
job_error_name what.UnknownKey = codes "unknown-key"
job_error_name what.WrongType = codes "wrong-type"
job_error_name what.Name = codes "name"
job_error_name what.Duplicate = codes "duplicate"
job_error_name what.Image = codes "image"
job_error_name what.Budget = codes "budget"
job_error_name what.Input = codes "input"
job_error_name what.Region = codes "region"
job_error_name what.Load = codes "load"
job_error_name what.Signature = codes "signature"
job_error_name what.Expect = codes "expect"
job_error_name what.SameAs = codes "same-as"
job_error_name what.OutOfMemory = codes "out-of-memory"
job_error_name what.Isa = codes "isa"
job_error_name what.Misaligned = codes "misaligned"
