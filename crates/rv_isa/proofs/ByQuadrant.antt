-- What a halfword means, row by row of the 16-bit table, and where none of a quadrant fits.
use Rattle.std.proofs.Common.{◌≡◌, ◌≢◌, ℕ, ◌<◌, ◌+◌, ◌-◌, ◌*◌, ◌^◌, ltb, Some, None}
use Rattle.std.proofs.Common.{IsTrue, IsFalse, pos, ◌-ℤ◌, refl}
use Rattle.std.proofs.Common.{inl, inr, arith}
use Rattle.std.proofs.lemmas.Bool.{ne_eqb, cases_eq, lt-ltb, cond-true}
use Rattle.rv_isa.specs.Bits.{field, bit, sign_extended}
use Rattle.rv_isa.specs.Extensions.{has_c}
use Rattle.rv_isa.specs.declared.instruction.Op.TheVariants as op
use Rattle.rv_isa.specs.declared.isa.Isa.{Isa}
use Rattle.rv_isa.specs.declared.isa.Isa.TheVariants as set
use Rattle.rv_isa.specs.Words.{instr_with, meaning32, rows}
use Rattle.rv_isa.specs.Halfwords.{rows16, meaning16, rd, short_register, immediate_ci, immediate_ciw, immediate_cl}
use Rattle.rv_isa.specs.Halfwords.{immediate_addi16sp, immediate_clui, immediate_cj, immediate_cb, immediate_lwsp, immediate_css}

pub c_addi4spn : (h : ℕ) → field h 1 0 ≡ 0 → field h 15 13 ≡ 0 → immediate_ciw h ≢ 0
    → meaning16 set.Imc h ≡ Some (instr_with op.Addi (short_register h 4 2) 2 0 (pos (immediate_ciw h)))
unfolding meaning16 rows16
c_addi4spn h p q z = rw (p, q, ne_eqb (immediate_ciw h) 0 z) refl

pub c_addi4spn_of_zero : (h : ℕ) → field h 1 0 ≡ 0 → field h 15 13 ≡ 0 → immediate_ciw h ≡ 0
    → meaning16 set.Imc h ≡ None
unfolding meaning16 rows16
c_addi4spn_of_zero h p q z = rw (p, q, z) refl

pub c_lw : (h : ℕ) → field h 1 0 ≡ 0 → field h 15 13 ≡ 2
    → meaning16 set.Imc h ≡ Some (instr_with op.Lw (short_register h 4 2) (short_register h 9 7) 0 (pos (immediate_cl h)))
unfolding meaning16 rows16
c_lw h p q = rw (p, q) refl

pub c_sw : (h : ℕ) → field h 1 0 ≡ 0 → field h 15 13 ≡ 6
    → meaning16 set.Imc h ≡ Some (instr_with op.Sw 0 (short_register h 9 7) (short_register h 4 2) (pos (immediate_cl h)))
unfolding meaning16 rows16
c_sw h p q = rw (p, q) refl

pub quadrant_0_else : (h : ℕ) → field h 1 0 ≡ 0 → field h 15 13 ≢ 0 → field h 15 13 ≢ 2
    → field h 15 13 ≢ 6
    → meaning16 set.Imc h ≡ None
unfolding meaning16 rows16
quadrant_0_else h p q r s =
    rw (p, ne_eqb (field h 15 13) 0 q, ne_eqb (field h 15 13) 2 r, ne_eqb (field h 15 13) 6 s) refl

pub c_addi : (h : ℕ) → field h 1 0 ≡ 1 → field h 15 13 ≡ 0
    → meaning16 set.Imc h ≡ Some (instr_with op.Addi (rd h) (rd h) 0 (sign_extended 6 (immediate_ci h)))
unfolding meaning16 rows16
c_addi h p q = rw (p, q) refl

pub c_jal : (h : ℕ) → field h 1 0 ≡ 1 → field h 15 13 ≡ 1
    → meaning16 set.Imc h ≡ Some (instr_with op.Jal 1 0 0 (sign_extended 12 (immediate_cj h)))
unfolding meaning16 rows16
c_jal h p q = rw (p, q) refl

pub c_li : (h : ℕ) → field h 1 0 ≡ 1 → field h 15 13 ≡ 2
    → meaning16 set.Imc h ≡ Some (instr_with op.Addi (rd h) 0 0 (sign_extended 6 (immediate_ci h)))
unfolding meaning16 rows16
c_li h p q = rw (p, q) refl

pub c_addi16sp : (h : ℕ) → field h 1 0 ≡ 1 → field h 15 13 ≡ 3 → field h 11 7 ≡ 2
    → immediate_addi16sp h ≢ 0
    → meaning16 set.Imc h ≡ Some (instr_with op.Addi 2 2 0 (sign_extended 10 (immediate_addi16sp h)))
unfolding meaning16 rows16
c_addi16sp h p q r z = rw (p, q, r, ne_eqb (immediate_addi16sp h) 0 z) refl

pub c_addi16sp_of_zero : (h : ℕ) → field h 1 0 ≡ 1 → field h 15 13 ≡ 3 → field h 11 7 ≡ 2
    → immediate_addi16sp h ≡ 0
    → meaning16 set.Imc h ≡ None
unfolding meaning16 rows16
c_addi16sp_of_zero h p q r z = rw (p, q, r, z) refl

pub c_lui : (h : ℕ) → field h 1 0 ≡ 1 → field h 15 13 ≡ 3 → field h 11 7 ≢ 2 → immediate_clui h ≢ 0
    → meaning16 set.Imc h ≡ Some (instr_with op.Lui (rd h) 0 0 (sign_extended 18 (immediate_clui h)))
unfolding meaning16 rows16
c_lui h p q r z = rw (p, q, ne_eqb (field h 11 7) 2 r, ne_eqb (immediate_clui h) 0 z) refl

pub c_lui_of_zero : (h : ℕ) → field h 1 0 ≡ 1 → field h 15 13 ≡ 3 → field h 11 7 ≢ 2 → immediate_clui h ≡ 0
    → meaning16 set.Imc h ≡ None
unfolding meaning16 rows16
c_lui_of_zero h p q r z = rw (p, q, ne_eqb (field h 11 7) 2 r, z) refl

pub c_srli : (h : ℕ) → field h 1 0 ≡ 1 → field h 15 13 ≡ 4 → field h 11 10 ≡ 0 → field h 12 12 ≡ 0
    → meaning16 set.Imc h ≡ Some (instr_with op.Srli (short_register h 9 7) (short_register h 9 7) 0 (pos (field h 6 2)))
unfolding meaning16 rows16
c_srli h p q r s = rw (p, q, r, s) refl

pub c_srai : (h : ℕ) → field h 1 0 ≡ 1 → field h 15 13 ≡ 4 → field h 11 10 ≡ 1 → field h 12 12 ≡ 0
    → meaning16 set.Imc h ≡ Some (instr_with op.Srai (short_register h 9 7) (short_register h 9 7) 0 (pos (field h 6 2)))
unfolding meaning16 rows16
c_srai h p q r s = rw (p, q, r, s) refl

pub c_andi : (h : ℕ) → field h 1 0 ≡ 1 → field h 15 13 ≡ 4 → field h 11 10 ≡ 2
    → meaning16 set.Imc h ≡ Some (instr_with op.Andi (short_register h 9 7) (short_register h 9 7) 0 (sign_extended 6 (immediate_ci h)))
unfolding meaning16 rows16
c_andi h p q r = rw (p, q, r) refl

pub c_sub : (h : ℕ) → field h 1 0 ≡ 1 → field h 15 13 ≡ 4 → field h 11 10 ≡ 3 → field h 12 12 ≡ 0
    → field h 6 5 ≡ 0
    → meaning16 set.Imc h ≡ Some (instr_with op.Sub (short_register h 9 7) (short_register h 9 7) (short_register h 4 2) (pos 0))
unfolding meaning16 rows16
c_sub h p q r s t = rw (p, q, r, s, t) refl

pub c_xor : (h : ℕ) → field h 1 0 ≡ 1 → field h 15 13 ≡ 4 → field h 11 10 ≡ 3 → field h 12 12 ≡ 0
    → field h 6 5 ≡ 1
    → meaning16 set.Imc h ≡ Some (instr_with op.Xor (short_register h 9 7) (short_register h 9 7) (short_register h 4 2) (pos 0))
unfolding meaning16 rows16
c_xor h p q r s t = rw (p, q, r, s, t) refl

pub c_or : (h : ℕ) → field h 1 0 ≡ 1 → field h 15 13 ≡ 4 → field h 11 10 ≡ 3 → field h 12 12 ≡ 0
    → field h 6 5 ≡ 2
    → meaning16 set.Imc h ≡ Some (instr_with op.Or (short_register h 9 7) (short_register h 9 7) (short_register h 4 2) (pos 0))
unfolding meaning16 rows16
c_or h p q r s t = rw (p, q, r, s, t) refl

pub c_and : (h : ℕ) → field h 1 0 ≡ 1 → field h 15 13 ≡ 4 → field h 11 10 ≡ 3 → field h 12 12 ≡ 0
    → field h 6 5 ≡ 3
    → meaning16 set.Imc h ≡ Some (instr_with op.And (short_register h 9 7) (short_register h 9 7) (short_register h 4 2) (pos 0))
unfolding meaning16 rows16
c_and h p q r s t = rw (p, q, r, s, t) refl

pub arithmetic_else : (h : ℕ) → field h 1 0 ≡ 1 → field h 15 13 ≡ 4 → field h 11 10 ≢ 2
    → field h 12 12 ≢ 0
    → meaning16 set.Imc h ≡ None
unfolding meaning16 rows16
arithmetic_else h p q r s = rw (p, q, ne_eqb (field h 11 10) 2 r, ne_eqb (field h 12 12) 0 s) (grind arith)

pub c_j : (h : ℕ) → field h 1 0 ≡ 1 → field h 15 13 ≡ 5
    → meaning16 set.Imc h ≡ Some (instr_with op.Jal 0 0 0 (sign_extended 12 (immediate_cj h)))
unfolding meaning16 rows16
c_j h p q = rw (p, q) refl

pub c_beqz : (h : ℕ) → field h 1 0 ≡ 1 → field h 15 13 ≡ 6
    → meaning16 set.Imc h ≡ Some (instr_with op.Beq 0 (short_register h 9 7) 0 (sign_extended 9 (immediate_cb h)))
unfolding meaning16 rows16
c_beqz h p q = rw (p, q) refl

pub c_bnez : (h : ℕ) → field h 1 0 ≡ 1 → field h 15 13 ≡ 7
    → meaning16 set.Imc h ≡ Some (instr_with op.Bne 0 (short_register h 9 7) 0 (sign_extended 9 (immediate_cb h)))
unfolding meaning16 rows16
c_bnez h p q = rw (p, q) refl

pub c_slli : (h : ℕ) → field h 1 0 ≡ 2 → field h 15 13 ≡ 0 → field h 12 12 ≡ 0
    → meaning16 set.Imc h ≡ Some (instr_with op.Slli (rd h) (rd h) 0 (pos (field h 6 2)))
unfolding meaning16 rows16
c_slli h p q r = rw (p, q, r) refl

pub c_slli_with_bit_12 : (h : ℕ) → field h 1 0 ≡ 2 → field h 15 13 ≡ 0 → field h 12 12 ≢ 0
    → meaning16 set.Imc h ≡ None
unfolding meaning16 rows16
c_slli_with_bit_12 h p q r = rw (p, q, ne_eqb (field h 12 12) 0 r) refl

pub c_lwsp : (h : ℕ) → field h 1 0 ≡ 2 → field h 15 13 ≡ 2 → field h 11 7 ≢ 0
    → meaning16 set.Imc h ≡ Some (instr_with op.Lw (rd h) 2 0 (pos (immediate_lwsp h)))
unfolding meaning16 rows16
c_lwsp h p q r = rw (p, q, ne_eqb (field h 11 7) 0 r) refl

pub c_lwsp_into_x0 : (h : ℕ) → field h 1 0 ≡ 2 → field h 15 13 ≡ 2 → field h 11 7 ≡ 0
    → meaning16 set.Imc h ≡ None
unfolding meaning16 rows16
c_lwsp_into_x0 h p q r = rw (p, q, r) refl

pub c_jr : (h : ℕ) → field h 1 0 ≡ 2 → field h 15 13 ≡ 4 → field h 12 12 ≡ 0 → field h 11 7 ≢ 0
    → field h 6 2 ≡ 0
    → meaning16 set.Imc h ≡ Some (instr_with op.Jalr 0 (rd h) 0 (pos 0))
unfolding meaning16 rows16
c_jr h p q r s t = rw (p, q, r, ne_eqb (field h 11 7) 0 s, t) refl

pub c_jr_x0 : (h : ℕ) → field h 1 0 ≡ 2 → field h 15 13 ≡ 4 → field h 12 12 ≡ 0 → field h 11 7 ≡ 0
    → field h 6 2 ≡ 0
    → meaning16 set.Imc h ≡ None
unfolding meaning16 rows16
c_jr_x0 h p q r s t = rw (p, q, r, s, t) refl

pub c_mv : (h : ℕ) → field h 1 0 ≡ 2 → field h 15 13 ≡ 4 → field h 12 12 ≡ 0 → field h 6 2 ≢ 0
    → meaning16 set.Imc h ≡ Some (instr_with op.Add (rd h) 0 (field h 6 2) (pos 0))
unfolding meaning16 rows16
c_mv h p q r s = rw (p, q, r, ne_eqb (field h 6 2) 0 s) refl

pub c_ebreak : (h : ℕ) → field h 1 0 ≡ 2 → field h 15 13 ≡ 4 → field h 12 12 ≡ 1 → field h 11 7 ≡ 0
    → field h 6 2 ≡ 0
    → meaning16 set.Imc h ≡ Some (instr_with op.Ebreak 0 0 0 (pos 0))
unfolding meaning16 rows16
c_ebreak h p q r s t = rw (p, q, r, s, t) refl

pub c_jalr : (h : ℕ) → field h 1 0 ≡ 2 → field h 15 13 ≡ 4 → field h 12 12 ≡ 1 → field h 11 7 ≢ 0
    → field h 6 2 ≡ 0
    → meaning16 set.Imc h ≡ Some (instr_with op.Jalr 1 (rd h) 0 (pos 0))
unfolding meaning16 rows16
c_jalr h p q r s t = rw (p, q, r, ne_eqb (field h 11 7) 0 s, t) refl

pub c_add : (h : ℕ) → field h 1 0 ≡ 2 → field h 15 13 ≡ 4 → field h 12 12 ≡ 1 → field h 6 2 ≢ 0
    → meaning16 set.Imc h ≡ Some (instr_with op.Add (rd h) (rd h) (field h 6 2) (pos 0))
unfolding meaning16 rows16
c_add h p q r s = rw (p, q, r, ne_eqb (field h 6 2) 0 s) refl

pub c_swsp : (h : ℕ) → field h 1 0 ≡ 2 → field h 15 13 ≡ 6
    → meaning16 set.Imc h ≡ Some (instr_with op.Sw 0 2 (field h 6 2) (pos (immediate_css h)))
unfolding meaning16 rows16
c_swsp h p q = rw (p, q) refl

pub quadrant_2_else : (h : ℕ) → field h 1 0 ≡ 2 → field h 15 13 ≢ 0 → field h 15 13 ≢ 2
    → field h 15 13 ≢ 4
    → field h 15 13 ≢ 6 → meaning16 set.Imc h ≡ None
unfolding meaning16 rows16
quadrant_2_else h p q r s t =
    rw (
      p,
      ne_eqb (field h 15 13) 0 q,
      ne_eqb (field h 15 13) 2 r,
      ne_eqb (field h 15 13) 4 s,
      ne_eqb (field h 15 13) 6 t,
    ) refl

pub quadrant_3 : (h : ℕ) → field h 1 0 ≢ 0 → field h 1 0 ≢ 1 → field h 1 0 ≢ 2
    → meaning16 set.Imc h ≡ None
unfolding meaning16 rows16
quadrant_3 h p q r = rw (ne_eqb (field h 1 0) 0 p, ne_eqb (field h 1 0) 1 q, ne_eqb (field h 1 0) 2 r) refl

-- all parts of the two immediates under one top field are 0 together
pub immediate_addi16sp-zero : (h : ℕ) → 32 * bit h 12 + field h 6 2 ≡ 0 → immediate_addi16sp h ≡ 0
unfolding field
immediate_addi16sp-zero h e = omega arith

pub immediate_addi16sp-nonzero : (h : ℕ) → 32 * bit h 12 + field h 6 2 ≢ 0 → immediate_addi16sp h ≢ 0
unfolding field
immediate_addi16sp-nonzero h e z = e (omega arith)

pub no_upper_of_zero : (h : ℕ) → field h 1 0 ≡ 1 → field h 15 13 ≡ 3 → 32 * bit h 12 + field h 6 2 ≡ 0
    → meaning16 set.Imc h ≡ None
no_upper_of_zero h p q z =
    elim (cases_eq (field h 11 7) 2) [
      | inl e ↦ c_addi16sp_of_zero h p q e (immediate_addi16sp-zero h z)
      | inr n ↦ c_lui_of_zero h p q n (omega arith)
    ]

pub ebreak_word : meaning32 set.Imc 0x00100073 ≡ Some (instr_with op.Ebreak 0 0 0 (pos 0))
unfolding meaning32 rows field
ebreak_word = refl

-- with C a set has all rows of the table, without it none
pub with_c : (isa : Isa) (h : ℕ) → IsTrue (has_c isa) → meaning16 set.Imc h ≡ meaning16 isa h
unfolding meaning16 rows16
with_c set.I h c = cc
with_c set.Im h c = cc
with_c set.Ic h c = refl
with_c set.Imc h c = refl

pub without_c : (isa : Isa) (h : ℕ) → IsFalse (has_c isa) → meaning16 isa h ≡ None
unfolding meaning16 rows16
without_c set.I h c = refl
without_c set.Im h c = refl
without_c set.Ic h c = cc
without_c set.Imc h c = cc

pub ruleset by_set = (with_c, without_c)

-- a number below half is itself
pub sign_extended-small : (bits n : ℕ) → n < 2 ^ (bits - 1) → sign_extended bits n ≡ pos n
sign_extended-small bits n h =
    cond-true (ltb n (2 ^ (bits - 1))) (pos n) (pos n -ℤ pos (2 ^ bits)) (lt-ltb n (2 ^ (bits - 1)) h)

pub ruleset by_quadrant = (
  c_addi4spn,
  c_addi4spn_of_zero,
  c_lw,
  c_sw,
  quadrant_0_else,
  c_addi,
  c_jal,
  c_li,
  c_addi16sp,
  c_addi16sp_of_zero,
  c_lui,
  c_lui_of_zero,
  c_srli,
  c_srai,
  c_andi,
  c_sub,
  c_xor,
  c_or,
  c_and,
  arithmetic_else,
  c_j,
  c_beqz,
  c_bnez,
  c_slli,
  c_slli_with_bit_12,
  c_lwsp,
  c_lwsp_into_x0,
  c_jr,
  c_jr_x0,
  c_mv,
  c_ebreak,
  c_jalr,
  c_add,
  c_swsp,
  quadrant_2_else,
  quadrant_3,
  sign_extended-small,
  immediate_addi16sp-nonzero,
  no_upper_of_zero,
  ebreak_word,
)
