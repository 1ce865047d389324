-- What a read gives.
use Rattle.std.proofs.Common.{◌≡◌, ◌∙◌, ◌≤◌, ◌<◌, ℕ, List, ap, arith, length, subst, sym, take}
use Rattle.std.specs.Prelude.{Option}
use Rattle.std.proofs.lemmas.List.{length-take-le}
use Rattle.std.specs.Io.KnownBytes.{Consumes, IsAtEnd}
use Rattle.rv_gdb.specs.Serving.{IsChunkRead, max_read}

-- the bytes that a read gave of a buffer, where there is room for as many as it asks for
pub chunk_of : (before after : Option (List ℕ)) (buffer chunk : List ℕ) (count : ℕ) → count ≤ length buffer → length buffer ≡ max_read
    → chunk ≡ take count buffer → Consumes before after (take count buffer) × (count ≡ 0 → 0 < length buffer → IsAtEnd after)
    → IsChunkRead before after chunk
chunk_of before after buffer chunk count bound room is bytes =
    let long : length (take count buffer) ≡ count = length-take-le count buffer bound in
    let same : length chunk ≡ count = ap length is ∙ long in record {
      read = subst (λ (xs : List ℕ). Consumes before after xs) (sym is) bytes.0;
      at_most_max = omega arith;
      ended = λ none. let empty : length chunk ≡ 0 = ap length none in bytes.1 (omega arith) (omega arith);
    }
