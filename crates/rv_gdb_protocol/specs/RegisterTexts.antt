-- The bodies of replies that show registers.
use Rattle.std.specs.Prelude.{ℕ, List, ◌++◌}
use Rattle.std.specs.Int.{w32, to_le_bytes}
use Rattle.std.specs.List.{flat_map}
use Rattle.hex.specs.Hex.{encode_lower}

-- the value of a register as eight hexadecimal digits, low byte first
unfoldable pub register_text : ℕ → List ℕ
register_text value = encode_lower (to_le_bytes w32 value)

-- the values of x0 to x31 and of the pc as hexadecimal digits
abbrev pub registers_text : List ℕ → ℕ → List ℕ
registers_text registers pc = flat_map register_text registers ++ register_text pc
