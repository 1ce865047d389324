-- The data of a text with escapes, byte by byte.
use Rattle.std.proofs.Common.{◌≡◌, ◌++◌, ◌+◌, ◌<◌, [], ℕ, List, Bool, drop, get_or, length, refl}
use Rattle.std.proofs.lemmas.List.{at_drop_more}
use Rattle.rv_gdb_protocol.specs.Escapes.{data_byte, data_of, is_escape}

pub data_of-drop : (behind : Bool) (text : List ℕ) (at : ℕ) → at < length text → data_of behind (drop at text)
    ≡ data_byte behind (get_or text at 0) ++ data_of (is_escape behind (get_or text at 0)) (drop (at + 1) text)
unfolding data_of
data_of-drop behind text at within = at_drop_more (λ rest. data_of behind rest) text at 0 within

pub data_of-empty : (behind : Bool) → data_of behind [] ≡ []
unfolding data_of
data_of-empty behind = refl
