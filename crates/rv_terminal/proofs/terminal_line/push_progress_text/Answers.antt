use Rattle.std.proofs.Common.{append_assoc, append-nil}
use Rattle.rv_terminal.proofs.terminal_line.push_progress_text.Goals as goal

pub returns : goal.returns
returns c = simp (append_assoc, append-nil) (simp (append_assoc, append-nil) at c.push_spans.ensures)
