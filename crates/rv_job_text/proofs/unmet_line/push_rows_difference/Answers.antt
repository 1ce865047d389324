use Rattle.std.proofs.Common.{◌++◌, append_assoc, codes, sym}
use Rattle.rv_text.proofs.Public.{ended, told}
use Rattle.rv_job_text.specs.UnmetLines.{bytes_difference_text, row_end_text, rows_difference_text, signatures_difference_text}
use Rattle.rv_job_text.proofs.unmet_line.push_rows_difference.Goals as goal

pub returns-in_ok-push_row_end-in-Ending : goal.returns-in_ok-push_row_end-in-Ending
unfolding rows_difference_text
returns-in_ok-push_row_end-in-Ending c =
    let other = codes ", which " ++ row_end_text c.args.other.now.ending in
    rw c.in-Ending.is
    (told _ _ _ _ _ (sym (append_assoc other (codes "; this job ") (row_end_text c.args.row.now.ending)))
    (ended _ _ _ _ _ _ c.in_ok-push_row_end-in-Ending.ensures c.push_row_end-in-Ending.ensures))

pub returns-in_ok-push_text-in-Console : goal.returns-in_ok-push_text-in-Console
unfolding rows_difference_text
returns-in_ok-push_text-in-Console c =
    let actual = c.as_slice.result.now in
    let expected = c.as_slice-in-Console.result.now in
    rw (c.in-Console.is, ← c.as_slice.ensures, ← c.as_slice-in-Console.ensures)
    (ended _ _ _ _ (codes ": console differs") (bytes_difference_text c.in-Console.difference actual expected)
    c.in_ok-push_text-in-Console.ensures c.push_bytes_difference.ensures)

pub returns-in_ok-push_text-in-Signature : goal.returns-in_ok-push_text-in-Signature
unfolding rows_difference_text
returns-in_ok-push_text-in-Signature c =
    let actual = c.args.row.now.signature in
    let expected = c.args.other.now.signature in
    rw c.in-Signature.is
    (ended _ _ _ _ (codes ": signature differs") (signatures_difference_text c.args.first actual expected c.in-Signature.difference)
    c.in_ok-push_text-in-Signature.ensures c.push_signatures_difference.ensures)

pub returns-in-Missing : goal.returns-in-Missing
unfolding rows_difference_text
returns-in-Missing c = rw c.in-Missing.is c.push_text-in-Missing.ensures
