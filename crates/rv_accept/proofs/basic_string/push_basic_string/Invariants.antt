use Rattle.std.proofs.Common.{◌≡◌, ◌++◌, ◌∷◌, take}
use Rattle.std.specs.List.{flat_map}
use Rattle.rv_accept.specs.BasicString.{byte_text}
use Rattle.rv_accept.proofs.basic_string.push_basic_string.Given as goal

abbrev pub invariant-loop-byte : goal.invariant-loop-byte
invariant-loop-byte l = l.out.items ≡ l.fn.out.items ++ 34 ∷ flat_map byte_text (take l.byte-index l.text)
