-- The functions of an image, one for each address.
use Rattle.std.specs.Prelude.{◌≡◌, ◌==◌, ℕ, Bool, List, find, length, map}
use Rattle.std.specs.List.{sum_by}
use Rattle.std.specs.List.Sorted.{IsStrictlyIncreasing}
use Rattle.rv_elf.specs.declared.function.Function.{Function}
use Rattle.rv_elf.specs.Functions.{FunctionView}

-- a function of the code as contracts see it: its name, its address and its bytes
abbrev pub view_of_function : Function → FunctionView
view_of_function f = (f.name.now, (f.address, f.code.now))

-- the address of a function
abbrev pub address_of : FunctionView → ℕ
address_of f = f.1.0

-- the bytes of a function
abbrev pub bytes_of : FunctionView → List ℕ
bytes_of f = f.1.1

-- whether a function has this address
abbrev pub has_address : ℕ → FunctionView → Bool
has_address address f = address_of f == address

-- `new` is sorted by address, and has for each address of `old` only the first function there
pub record IsEachOnce (old new : List FunctionView) : Type 0 where
  pub rising : IsStrictlyIncreasing (map address_of new)
  pub first : (address : ℕ) → find (has_address address) new ≡ find (has_address address) old

-- the total size of the functions in bytes
abbrev pub code_bytes : List FunctionView → ℕ
code_bytes fs = sum_by (λ f. length (bytes_of f)) fs
