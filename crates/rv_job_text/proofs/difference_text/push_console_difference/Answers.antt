use Rattle.std.proofs.Common.{◌++◌, codes, rules}
use Rattle.rv_text.specs.Printable.{printable_text}
use Rattle.rv_text.proofs.Public.{ended, told}
use Rattle.rv_job_text.specs.UnmetLines.{bytes_difference_text, console_difference_text, expected_console_text}
use Rattle.rv_job_text.proofs.difference_text.push_console_difference.Goals as goal

pub returns-in_ok-push_text-in-Some-Text : goal.returns-in_ok-push_text-in-Some-Text
unfolding console_difference_text expected_console_text
returns-in_ok-push_text-in-Some-Text c =
    let told_bytes = bytes_difference_text c.args.difference c.args.actual.now c.as_slice.result.now in
    told _ _ _ (codes "console differs from the expected text" ++ told_bytes) _ (search rules)
    (ended _ _ _ _ (codes "console differs from the expected text") told_bytes c.in_ok-push_text-in-Some-Text.ensures c.push_bytes_difference.ensures)

pub returns-in_ok-push_prefixed_name-in-Some-File : goal.returns-in_ok-push_prefixed_name-in-Some-File
unfolding console_difference_text expected_console_text
returns-in_ok-push_prefixed_name-in-Some-File c =
    let topic = codes "console differs from " ++ printable_text c.as_str.result.now in
    let told_bytes = bytes_difference_text c.args.difference c.args.actual.now c.bytes_or_empty.result.now in
    told _ _ _ (topic ++ told_bytes) _ (search rules)
    (ended _ _ _ _ topic told_bytes c.in_ok-push_prefixed_name-in-Some-File.ensures c.push_bytes_difference-in-Some-File.ensures)
