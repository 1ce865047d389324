-- What a row gives has register numbers below 32, and shifts below 32.
use Rattle.std.proofs.Common.{◌≡◌, ℕ, Bool, true, false, not, ◌||◌, Option, Some, None, IfSome, refl, sym, subst, arith}
use Rattle.std.specs.List.{list_all}
use Rattle.std.proofs.lemmas.Int.{ints}
use Rattle.rv_isa.specs.declared.instruction.Op.{Op}
use Rattle.rv_isa.specs.declared.instruction.Instr.{Instr}
use Rattle.rv_isa.specs.declared.isa.Isa.{Isa}
use Rattle.rv_isa.specs.Words.{Format, TypeR, TypeI, TypeShift, TypeS, TypeB, TypeU, TypeJ, NoOperands, rows}
use Rattle.rv_isa.specs.Words.{instruction, is_shift, IsWellFormed, Means32, meaning32}
use Rattle.rv_isa.proofs.Tables.{all_at}
use Rattle.rv_isa.proofs.Fields.{field_lt}
use Rattle.rv_isa.proofs.WordRows.{meaning32_means}

abbrev takes_shift : Format → Bool
takes_shift TypeShift = true
takes_shift _ = false

shift_rows : list_all (λ r. not (is_shift r.name) || takes_shift r.format) rows ≡ true
unfolding rows
shift_rows = refl

no_shift : (b : Bool) → (not b || false) ≡ true → b ≡ true → ⊥
no_shift true h e = cc
no_shift false h e = cc

well_formed : (name : Op) (format : Format) (w : ℕ) → (not (is_shift name) || takes_shift format) ≡ true
    → IsWellFormed (instruction name format w)
well_formed name TypeR w h =
    (field_lt w 11 7, field_lt w 19 15, field_lt w 24 20, λ s. absurd (no_shift (is_shift name) h s))
well_formed name TypeI w h = (field_lt w 11 7, field_lt w 19 15, omega arith, λ s. absurd (no_shift (is_shift name) h s))
well_formed name TypeShift w h = (
  field_lt w 11 7,
  field_lt w 19 15,
  omega arith,
  λ s. (omega (arith, ints, field_lt w 24 20), omega (arith, ints, field_lt w 24 20)),
)
well_formed name TypeS w h = (omega arith, field_lt w 19 15, field_lt w 24 20, λ s. absurd (no_shift (is_shift name) h s))
well_formed name TypeB w h = (omega arith, field_lt w 19 15, field_lt w 24 20, λ s. absurd (no_shift (is_shift name) h s))
well_formed name TypeU w h = (field_lt w 11 7, omega arith, omega arith, λ s. absurd (no_shift (is_shift name) h s))
well_formed name TypeJ w h = (field_lt w 11 7, omega arith, omega arith, λ s. absurd (no_shift (is_shift name) h s))
well_formed name NoOperands w h = (omega arith, omega arith, omega arith, λ s. absurd (no_shift (is_shift name) h s))

pub means32_formed : (isa : Isa) (w : ℕ) (i : Instr) → Means32 isa w i → IsWellFormed i
unfolding Means32
means32_formed isa w i m =
    subst IsWellFormed (sym m.4.1)
    (well_formed m.1.name m.1.format w
    (all_at (λ r. not (is_shift r.name) || takes_shift r.format) rows m.0 m.1 shift_rows m.2 m.3))

pub meaning32_formed : (isa : Isa) (w : ℕ) (r : Option Instr) → r ≡ meaning32 isa w → IfSome r IsWellFormed
meaning32_formed isa w None e = tt
meaning32_formed isa w (Some i) e = means32_formed isa w i ((meaning32_means isa w i).0 (sym e))
