-- Words that the process does not give.
use Rattle.std.proofs.Common.{◌≡◌, ℕ, List, Option, codes, refl}
use Rattle.std.specs.declared.io.ErrorKind.{ErrorKind}
use Rattle.std.specs.declared.io.ErrorKind.TheVariants as io
use Rattle.rv_command.specs.Messages.{IsMessageWritten}
use Rattle.rvtest_app.specs.ReportedStops.{unreadable_args_message}

-- they are told as no text, but where memory was wanting
pub told_as_no_text : (before after : Option (List ℕ)) (failed_before failed_after : ℕ) (kind : ErrorKind)
    → (kind ≡ io.OutOfMemory → ⊥)
    → IsMessageWritten before after failed_before failed_after (codes "rvtest: an argument is not valid UTF-8\n")
    → IsMessageWritten before after failed_before failed_after (unreadable_args_message kind)
told_as_no_text before after failed_before failed_after io.OutOfMemory other put = absurd (other refl)
told_as_no_text before after failed_before failed_after _ other put = put
