-- Accesses whose address is a multiple of their number of bytes.
use Rattle.std.proofs.Common.{◌≡◌, ℕ, ◌%◌, ap, refl, true, false, ◌==◌, not}
use Rattle.rv_memory.specs.declared.access.Width.{Width}
use Rattle.rv_memory.specs.declared.access.Misaligned.{Misaligned}
use Rattle.rv_memory.specs.declared.access.Misaligned.TheVariants.{Fault, Allow}
use Rattle.rv_memory.specs.Bus.{size_of, rejects}

-- such an access is not refused for its address
pub not_refused : (m : Misaligned) (a : ℕ) (w : Width) → (a % size_of w == 0) ≡ true → rejects m a w ≡ false
not_refused Fault a w h = ap not h
not_refused Allow a w h = refl
