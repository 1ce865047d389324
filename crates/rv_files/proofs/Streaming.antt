-- What goes into a stream.
use Rattle.std.proofs.Common.{◌∙◌, ℕ, List, Option, Some, None, sym, take, drop, take-append-drop}
use Rattle.std.specs.Io.KnownBytes.{Appends, Keeps}
use Rattle.rv_base.specs.Sinks.{AppendsPrefix}

appended_and_kept : (a b c : Option (List ℕ)) (bytes : List ℕ) → Appends a b bytes → Keeps b c → Appends a c bytes
appended_and_kept None b c bytes appended kept = tt
appended_and_kept (Some x) None c bytes appended kept = absurd appended
appended_and_kept (Some x) (Some y) None bytes appended kept = absurd kept
appended_and_kept (Some x) (Some y) (Some z) bytes appended kept = kept ∙ appended

-- the first bytes were written, and no flush followed
pub unflushed : (a b c : Option (List ℕ)) (bytes : List ℕ) (count : ℕ) → Appends a b (take count bytes) → Keeps b c
    → AppendsPrefix a c bytes
unflushed a b c bytes count appended kept = record {
  part = take count bytes;
  rest = drop count bytes;
  whole = sym (take-append-drop count bytes);
  appended = appended_and_kept a b c (take count bytes) appended kept;
}
