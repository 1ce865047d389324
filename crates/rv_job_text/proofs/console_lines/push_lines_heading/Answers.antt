use Rattle.std.proofs.Common.{codes}
use Rattle.std.specs.Fmt.{decimal}
use Rattle.rv_text.specs.Spans.{span_text}
use Rattle.rv_text.proofs.Public.{told}
use Rattle.rv_job_text.proofs.Told.{heading_told}
use Rattle.rv_job_text.proofs.console_lines.push_lines_heading.Goals as goal

pub returns : goal.returns
returns c =
    told _ _ _ _ _ (heading_told (codes "     console differs from ") (span_text c.args.source) (codes " at line ")
    (decimal c.args.number) (codes " of ") (decimal c.args.count) (codes ":\n")) c.push_spans.ensures
