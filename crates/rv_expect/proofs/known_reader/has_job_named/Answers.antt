use Rattle.std.proofs.Common.{◌∙◌}
use Rattle.std.specs.Str.{bytes_eq}
use Rattle.rv_expect.proofs.KnownLines.{any_of_borrowed}
use Rattle.rv_expect.proofs.known_reader.has_job_named.Goals as goal

pub returns : goal.returns
returns c = c.is_among.ensures ∙ any_of_borrowed (λ job. bytes_eq job c.args.name.now) c.args.jobs.now
