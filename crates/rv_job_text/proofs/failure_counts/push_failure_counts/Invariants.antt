use Rattle.std.proofs.Common.{◌≡◌, ◌++◌, ◌==◌, length}
use Rattle.std.specs.Prelude.{not}
use Rattle.rv_job_text.specs.TotalsLine.{failure_count, failure_texts_below, open_bracket_text}
use Rattle.rv_job_text.proofs.failure_counts.push_failure_counts.Given as goal

abbrev pub invariant-loop-index : goal.invariant-loop-index
invariant-loop-index l = record {
  begun : l.is_open ≡ not (length (failure_texts_below (failure_count l.failures) l.index) == 0);
  text : l.bytes.items
      ≡ l.initial.bytes.items ++ open_bracket_text (failure_texts_below (failure_count l.failures) l.index);
}
