use Rattle.std.proofs.Common.{codes}
use Rattle.std.specs.Fmt.{decimal}
use Rattle.rv_text.proofs.Public.{told}
use Rattle.rv_job_text.specs.UnmetLines.{bad_reference_line_text}
use Rattle.rv_job_text.proofs.Told.{three_told}
use Rattle.rv_job_text.proofs.signature_difference_text.push_bad_reference_line.Goals as goal

pub returns : goal.returns
unfolding bad_reference_line_text
returns c =
    told _ _ _ _ _ (three_told (codes ", which is invalid at line ") (decimal c.args.number)
    (codes ": expected eight lower-case hexadecimal digits and a newline")) c.push_spans.ensures
