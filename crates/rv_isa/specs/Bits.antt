-- Numbers as bits and as two's complement: the notation in which the RISC-V Unprivileged ISA
-- 20191213 writes encodings and arithmetic (chapter 2).
use Rattle.std.specs.Prelude.{ℕ, ◌+◌, ◌-◌, ◌/◌, ◌%◌, ◌^◌, ℤ, pos, negsuc, ◌-ℤ◌, if◌then◌else◌}
use Rattle.std.specs.Prelude.{nat_lt}

-- the bits `high` down to `low` of `n`, as a number
unfoldable pub field : ℕ → ℕ → ℕ → ℕ
field n high low = n / 2 ^ low % 2 ^ (high - low + 1)

-- the bit of `n` at position `index`: 0 or 1
abbrev pub bit : ℕ → ℕ → ℕ
bit n index = field n index index

-- the two's complement value of a number below 2 ^ `bits`, whose sign bit is bit `bits` - 1
abbrev pub sign_extended : ℕ → ℕ → ℤ
sign_extended bits value =
    if nat_lt value (2 ^ (bits - 1)) then pos value else (pos value -ℤ pos (2 ^ bits))

-- the two's complement value of a 32-bit word
abbrev pub signed_value : ℕ → ℤ
signed_value word = sign_extended 32 word

-- the low 32 bits of an integer: its value modulo 2 ^ 32 (`negsuc n` is the integer -1 - n)
abbrev pub wrap : ℤ → ℕ
wrap (pos n) = n % 0x1_0000_0000
wrap (negsuc n) = 0xffff_ffff - n % 0x1_0000_0000
