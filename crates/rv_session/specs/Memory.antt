-- Memory as gdb sees it.
use Rattle.std.specs.Prelude.{ℕ, List, [], ◌∷◌, ◌==◌, ◌&&◌, ◌+◌, ◌-◌, Bool, true, false, Option, Some, None, map, min, nat_lt}
use Rattle.std.specs.FinMap as fin
use Rattle.std.specs.List.{range_with_len}
use Rattle.rv_history.specs.Bus.{BusContents}
use Rattle.rv_gdb_protocol.specs.declared.request.Range.{Range}

-- the values before the first `None`
unfoldable pub leading_values : List (Option ℕ) → List ℕ
leading_values [] = []
leading_values (None ∷ rest) = []
leading_values (Some byte ∷ rest) = byte ∷ leading_values rest

-- the maximum number of bytes of memory in a reply, which has two digits for each
abbrev pub max_memory_bytes : ℕ
max_memory_bytes = 8184

-- the number of addresses, which is one more than the last address
abbrev pub end_of_addresses : ℕ
end_of_addresses = 4294967296

-- how many bytes of a range are read: no more than fit in a reply, and none past the end of the address space
abbrev pub bytes_requested : Range → ℕ
bytes_requested range = min (min range.count max_memory_bytes) (end_of_addresses - range.address)

-- the bytes of a range, up to the first address outside the regions
unfoldable pub bytes_from : BusContents → Range → List ℕ
bytes_from bus range = leading_values (map (fin.get bus.memory) (range_with_len range.address (bytes_requested range)))

-- whether the option is this byte
abbrev pub is_byte : Option ℕ → ℕ → Bool
is_byte (Some other) byte = other == byte
is_byte None byte = false

-- whether memory has these bytes from `address` on; false if they extend past the end of the address space
unfoldable pub has_bytes_at : BusContents → ℕ → List ℕ → Bool
has_bytes_at bus address [] = true
has_bytes_at bus address (byte ∷ rest) =
    nat_lt address end_of_addresses && (is_byte (fin.get bus.memory address) byte && has_bytes_at bus (address + 1) rest)
