use Rattle.std.proofs.Common.{◌≡◌, ◌-◌, ◌++◌, ◌≤◌, vec_len}
use Rattle.std.specs.Prelude.{replicate}
use Rattle.rv_report.proofs.lenient_rows.pad_signature_words.Given as goal

abbrev pub invariant-loop-words : goal.invariant-loop-words
invariant-loop-words l = record {
  items : l.words.items ≡ l.fn.words.items ++ replicate (vec_len l.words - vec_len l.fn.words) 0;
  grown : vec_len l.fn.words ≤ vec_len l.words;
  most : vec_len l.words - vec_len l.fn.words ≤ l.count - vec_len l.fn.words;
}

abbrev pub decreases-loop-words : goal.decreases-loop-words
decreases-loop-words l = l.count - vec_len l.words
