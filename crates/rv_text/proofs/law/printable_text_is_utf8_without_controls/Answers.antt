use Rattle.rv_text.proofs.PrintableTexts.{shown_text, shown_within}
use Rattle.rv_text.proofs.law.printable_text_is_utf8_without_controls.Goals as goal

pub returns : goal.returns
returns c = record { text = shown_text; value = shown_within 80; name = shown_within 256 }
