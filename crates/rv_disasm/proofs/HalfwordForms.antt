-- How a halfword is written, row by row of the 16-bit table, and where none of a quadrant fits.
use Rattle.std.proofs.Common.{◌≡◌, ◌≢◌, ℕ, Some, None, refl, inl, inr, arith}
use Rattle.std.specs.Prelude.{codes}
use Rattle.std.proofs.lemmas.Bool.{ne_eqb, cases_eq}
use Rattle.rv_isa.specs.Bits.{field}
use Rattle.rv_isa.specs.Halfwords.{rows16, immediate_ci, immediate_ciw, immediate_addi16sp, immediate_clui}
use Rattle.rv_disasm.specs.declared.form.Operand.TheVariants.{Rs1, Target, Imm}
use Rattle.rv_disasm.specs.declared.form.Operands.TheVariants.{Absent, One}
use Rattle.rv_disasm.specs.Forms.{form16, form_row, immediate_operands, load_operands, store_operands, upper_immediate_operands, register_immediate_operands, two_register_operands}
use Rattle.rv_disasm.specs.Forms.{zero_branch_operands}

pub c_addi4spn : (h : ℕ) → field h 1 0 ≡ 0 → field h 15 13 ≡ 0 → immediate_ciw h ≢ 0
    → form16 h ≡ Some (form_row (codes "c.addi4spn") immediate_operands)
unfolding form16 rows16
c_addi4spn h p q z = rw (p, q, ne_eqb (immediate_ciw h) 0 z) refl

pub c_addi4spn_of_zero : (h : ℕ) → field h 1 0 ≡ 0 → field h 15 13 ≡ 0 → immediate_ciw h ≡ 0
    → form16 h ≡ None
unfolding form16 rows16
c_addi4spn_of_zero h p q z = rw (p, q, z) refl

pub c_lw : (h : ℕ) → field h 1 0 ≡ 0 → field h 15 13 ≡ 2
    → form16 h ≡ Some (form_row (codes "c.lw") load_operands)
unfolding form16 rows16
c_lw h p q = rw (p, q) refl

pub c_sw : (h : ℕ) → field h 1 0 ≡ 0 → field h 15 13 ≡ 6
    → form16 h ≡ Some (form_row (codes "c.sw") store_operands)
unfolding form16 rows16
c_sw h p q = rw (p, q) refl

pub quadrant_0_else : (h : ℕ) → field h 1 0 ≡ 0 → field h 15 13 ≢ 0 → field h 15 13 ≢ 2
    → field h 15 13 ≢ 6
    → form16 h ≡ None
unfolding form16 rows16
quadrant_0_else h p q r s =
    rw (p, ne_eqb (field h 15 13) 0 q, ne_eqb (field h 15 13) 2 r, ne_eqb (field h 15 13) 6 s) refl

pub c_jal : (h : ℕ) → field h 1 0 ≡ 1 → field h 15 13 ≡ 1
    → form16 h ≡ Some (form_row (codes "c.jal") (One Target))
unfolding form16 rows16
c_jal h p q = rw (p, q) refl

pub c_li : (h : ℕ) → field h 1 0 ≡ 1 → field h 15 13 ≡ 2
    → form16 h ≡ Some (form_row (codes "c.li") register_immediate_operands)
unfolding form16 rows16
c_li h p q = rw (p, q) refl

pub c_addi16sp : (h : ℕ) → field h 1 0 ≡ 1 → field h 15 13 ≡ 3 → field h 11 7 ≡ 2
    → immediate_addi16sp h ≢ 0
    → form16 h ≡ Some (form_row (codes "c.addi16sp") register_immediate_operands)
unfolding form16 rows16
c_addi16sp h p q r z = rw (p, q, r, ne_eqb (immediate_addi16sp h) 0 z) refl

pub c_addi16sp_of_zero : (h : ℕ) → field h 1 0 ≡ 1 → field h 15 13 ≡ 3 → field h 11 7 ≡ 2
    → immediate_addi16sp h ≡ 0
    → form16 h ≡ None
unfolding form16 rows16
c_addi16sp_of_zero h p q r z = rw (p, q, r, z) refl

pub c_lui : (h : ℕ) → field h 1 0 ≡ 1 → field h 15 13 ≡ 3 → field h 11 7 ≢ 2 → immediate_clui h ≢ 0
    → form16 h ≡ Some (form_row (codes "c.lui") upper_immediate_operands)
unfolding form16 rows16
c_lui h p q r z = rw (p, q, ne_eqb (field h 11 7) 2 r, ne_eqb (immediate_clui h) 0 z) refl

pub c_lui_of_zero : (h : ℕ) → field h 1 0 ≡ 1 → field h 15 13 ≡ 3 → field h 11 7 ≢ 2 → immediate_clui h ≡ 0
    → form16 h ≡ None
unfolding form16 rows16
c_lui_of_zero h p q r z = rw (p, q, ne_eqb (field h 11 7) 2 r, z) refl

pub c_srli : (h : ℕ) → field h 1 0 ≡ 1 → field h 15 13 ≡ 4 → field h 11 10 ≡ 0 → field h 12 12 ≡ 0
    → form16 h ≡ Some (form_row (codes "c.srli") register_immediate_operands)
unfolding form16 rows16
c_srli h p q r s = rw (p, q, r, s) refl

pub c_srai : (h : ℕ) → field h 1 0 ≡ 1 → field h 15 13 ≡ 4 → field h 11 10 ≡ 1 → field h 12 12 ≡ 0
    → form16 h ≡ Some (form_row (codes "c.srai") register_immediate_operands)
unfolding form16 rows16
c_srai h p q r s = rw (p, q, r, s) refl

pub c_andi : (h : ℕ) → field h 1 0 ≡ 1 → field h 15 13 ≡ 4 → field h 11 10 ≡ 2
    → form16 h ≡ Some (form_row (codes "c.andi") register_immediate_operands)
unfolding form16 rows16
c_andi h p q r = rw (p, q, r) refl

pub c_sub : (h : ℕ) → field h 1 0 ≡ 1 → field h 15 13 ≡ 4 → field h 11 10 ≡ 3 → field h 12 12 ≡ 0
    → field h 6 5 ≡ 0
    → form16 h ≡ Some (form_row (codes "c.sub") two_register_operands)
unfolding form16 rows16
c_sub h p q r s t = rw (p, q, r, s, t) refl

pub c_xor : (h : ℕ) → field h 1 0 ≡ 1 → field h 15 13 ≡ 4 → field h 11 10 ≡ 3 → field h 12 12 ≡ 0
    → field h 6 5 ≡ 1
    → form16 h ≡ Some (form_row (codes "c.xor") two_register_operands)
unfolding form16 rows16
c_xor h p q r s t = rw (p, q, r, s, t) refl

pub c_or : (h : ℕ) → field h 1 0 ≡ 1 → field h 15 13 ≡ 4 → field h 11 10 ≡ 3 → field h 12 12 ≡ 0
    → field h 6 5 ≡ 2
    → form16 h ≡ Some (form_row (codes "c.or") two_register_operands)
unfolding form16 rows16
c_or h p q r s t = rw (p, q, r, s, t) refl

pub c_and : (h : ℕ) → field h 1 0 ≡ 1 → field h 15 13 ≡ 4 → field h 11 10 ≡ 3 → field h 12 12 ≡ 0
    → field h 6 5 ≡ 3
    → form16 h ≡ Some (form_row (codes "c.and") two_register_operands)
unfolding form16 rows16
c_and h p q r s t = rw (p, q, r, s, t) refl

pub arithmetic_else : (h : ℕ) → field h 1 0 ≡ 1 → field h 15 13 ≡ 4 → field h 11 10 ≢ 2
    → field h 12 12 ≢ 0
    → form16 h ≡ None
unfolding form16 rows16
arithmetic_else h p q r s = rw (p, q, ne_eqb (field h 11 10) 2 r, ne_eqb (field h 12 12) 0 s) (grind arith)

pub c_j : (h : ℕ) → field h 1 0 ≡ 1 → field h 15 13 ≡ 5
    → form16 h ≡ Some (form_row (codes "c.j") (One Target))
unfolding form16 rows16
c_j h p q = rw (p, q) refl

pub c_beqz : (h : ℕ) → field h 1 0 ≡ 1 → field h 15 13 ≡ 6
    → form16 h ≡ Some (form_row (codes "c.beqz") zero_branch_operands)
unfolding form16 rows16
c_beqz h p q = rw (p, q) refl

pub c_bnez : (h : ℕ) → field h 1 0 ≡ 1 → field h 15 13 ≡ 7
    → form16 h ≡ Some (form_row (codes "c.bnez") zero_branch_operands)
unfolding form16 rows16
c_bnez h p q = rw (p, q) refl

pub c_slli : (h : ℕ) → field h 1 0 ≡ 2 → field h 15 13 ≡ 0 → field h 12 12 ≡ 0
    → form16 h ≡ Some (form_row (codes "c.slli") register_immediate_operands)
unfolding form16 rows16
c_slli h p q r = rw (p, q, r) refl

pub c_slli_with_bit_12 : (h : ℕ) → field h 1 0 ≡ 2 → field h 15 13 ≡ 0 → field h 12 12 ≢ 0
    → form16 h ≡ None
unfolding form16 rows16
c_slli_with_bit_12 h p q r = rw (p, q, ne_eqb (field h 12 12) 0 r) refl

pub c_lwsp : (h : ℕ) → field h 1 0 ≡ 2 → field h 15 13 ≡ 2 → field h 11 7 ≢ 0
    → form16 h ≡ Some (form_row (codes "c.lwsp") load_operands)
unfolding form16 rows16
c_lwsp h p q r = rw (p, q, ne_eqb (field h 11 7) 0 r) refl

pub c_lwsp_into_x0 : (h : ℕ) → field h 1 0 ≡ 2 → field h 15 13 ≡ 2 → field h 11 7 ≡ 0
    → form16 h ≡ None
unfolding form16 rows16
c_lwsp_into_x0 h p q r = rw (p, q, r) refl

pub c_jr : (h : ℕ) → field h 1 0 ≡ 2 → field h 15 13 ≡ 4 → field h 12 12 ≡ 0 → field h 11 7 ≢ 0
    → field h 6 2 ≡ 0
    → form16 h ≡ Some (form_row (codes "c.jr") (One Rs1))
unfolding form16 rows16
c_jr h p q r s t = rw (p, q, r, ne_eqb (field h 11 7) 0 s, t) refl

pub c_jr_x0 : (h : ℕ) → field h 1 0 ≡ 2 → field h 15 13 ≡ 4 → field h 12 12 ≡ 0 → field h 11 7 ≡ 0
    → field h 6 2 ≡ 0
    → form16 h ≡ None
unfolding form16 rows16
c_jr_x0 h p q r s t = rw (p, q, r, s, t) refl

pub c_mv : (h : ℕ) → field h 1 0 ≡ 2 → field h 15 13 ≡ 4 → field h 12 12 ≡ 0 → field h 6 2 ≢ 0
    → form16 h ≡ Some (form_row (codes "c.mv") two_register_operands)
unfolding form16 rows16
c_mv h p q r s = rw (p, q, r, ne_eqb (field h 6 2) 0 s) refl

pub c_ebreak : (h : ℕ) → field h 1 0 ≡ 2 → field h 15 13 ≡ 4 → field h 12 12 ≡ 1 → field h 11 7 ≡ 0
    → field h 6 2 ≡ 0
    → form16 h ≡ Some (form_row (codes "c.ebreak") Absent)
unfolding form16 rows16
c_ebreak h p q r s t = rw (p, q, r, s, t) refl

pub c_jalr : (h : ℕ) → field h 1 0 ≡ 2 → field h 15 13 ≡ 4 → field h 12 12 ≡ 1 → field h 11 7 ≢ 0
    → field h 6 2 ≡ 0
    → form16 h ≡ Some (form_row (codes "c.jalr") (One Rs1))
unfolding form16 rows16
c_jalr h p q r s t = rw (p, q, r, ne_eqb (field h 11 7) 0 s, t) refl

pub c_add : (h : ℕ) → field h 1 0 ≡ 2 → field h 15 13 ≡ 4 → field h 12 12 ≡ 1 → field h 6 2 ≢ 0
    → form16 h ≡ Some (form_row (codes "c.add") two_register_operands)
unfolding form16 rows16
c_add h p q r s = rw (p, q, r, ne_eqb (field h 6 2) 0 s) refl

pub c_swsp : (h : ℕ) → field h 1 0 ≡ 2 → field h 15 13 ≡ 6
    → form16 h ≡ Some (form_row (codes "c.swsp") store_operands)
unfolding form16 rows16
c_swsp h p q = rw (p, q) refl

pub quadrant_2_else : (h : ℕ) → field h 1 0 ≡ 2 → field h 15 13 ≢ 0 → field h 15 13 ≢ 2
    → field h 15 13 ≢ 4
    → field h 15 13 ≢ 6 → form16 h ≡ None
unfolding form16 rows16
quadrant_2_else h p q r s t =
    rw (
      p,
      ne_eqb (field h 15 13) 0 q,
      ne_eqb (field h 15 13) 2 r,
      ne_eqb (field h 15 13) 4 s,
      ne_eqb (field h 15 13) 6 t,
    ) refl

pub quadrant_3 : (h : ℕ) → field h 1 0 ≢ 0 → field h 1 0 ≢ 1 → field h 1 0 ≢ 2
    → form16 h ≡ None
unfolding form16 rows16
quadrant_3 h p q r = rw (ne_eqb (field h 1 0) 0 p, ne_eqb (field h 1 0) 1 q, ne_eqb (field h 1 0) 2 r) refl

pub c_addi : (h : ℕ) → field h 1 0 ≡ 1 → field h 15 13 ≡ 0 → field h 11 7 ≢ 0
    → form16 h ≡ Some (form_row (codes "c.addi") register_immediate_operands)
unfolding form16 rows16
c_addi h p q r = rw (p, q, ne_eqb (field h 11 7) 0 r) refl

pub c_nop_hint : (h : ℕ) → field h 1 0 ≡ 1 → field h 15 13 ≡ 0 → field h 11 7 ≡ 0 → immediate_ci h ≢ 0
    → form16 h ≡ Some (form_row (codes "c.nop") (One Imm))
unfolding form16 rows16
c_nop_hint h p q r z = rw (p, q, r, ne_eqb (immediate_ci h) 0 z) refl

pub c_nop : (h : ℕ) → field h 1 0 ≡ 1 → field h 15 13 ≡ 0 → field h 11 7 ≡ 0 → immediate_ci h ≡ 0
    → form16 h ≡ Some (form_row (codes "c.nop") Absent)
unfolding form16 rows16
c_nop h p q r z = rw (p, q, r, z) refl

-- all parts of an immediate are 0 together
pub immediate_ciw-zero : (h : ℕ) → field h 12 5 ≡ 0 → immediate_ciw h ≡ 0
unfolding field
immediate_ciw-zero h e = omega arith

pub immediate_ciw-nonzero : (h : ℕ) → field h 12 5 ≢ 0 → immediate_ciw h ≢ 0
unfolding field
immediate_ciw-nonzero h e z = e (omega arith)

pub immediate_addi16sp-zero : (h : ℕ) → immediate_ci h ≡ 0 → immediate_addi16sp h ≡ 0
unfolding field
immediate_addi16sp-zero h e = omega arith

pub immediate_addi16sp-nonzero : (h : ℕ) → immediate_ci h ≢ 0 → immediate_addi16sp h ≢ 0
unfolding field
immediate_addi16sp-nonzero h e z = e (omega arith)

pub no_upper_of_zero : (h : ℕ) → field h 1 0 ≡ 1 → field h 15 13 ≡ 3 → immediate_ci h ≡ 0
    → form16 h ≡ None
no_upper_of_zero h p q z =
    elim (cases_eq (field h 11 7) 2) [
      | inl e ↦ c_addi16sp_of_zero h p q e (immediate_addi16sp-zero h z)
      | inr n ↦ c_lui_of_zero h p q n (omega arith)
    ]

pub ruleset by_quadrant = (
  c_addi4spn,
  c_addi4spn_of_zero,
  c_lw,
  c_sw,
  quadrant_0_else,
  c_jal,
  c_li,
  c_addi16sp,
  c_addi16sp_of_zero,
  c_lui,
  c_lui_of_zero,
  c_srli,
  c_srai,
  c_andi,
  c_sub,
  c_xor,
  c_or,
  c_and,
  arithmetic_else,
  c_j,
  c_beqz,
  c_bnez,
  c_slli,
  c_slli_with_bit_12,
  c_lwsp,
  c_lwsp_into_x0,
  c_jr,
  c_jr_x0,
  c_mv,
  c_ebreak,
  c_jalr,
  c_add,
  c_swsp,
  quadrant_2_else,
  quadrant_3,
  c_addi,
  c_nop_hint,
  c_nop,
  immediate_ciw-zero,
  immediate_ciw-nonzero,
  immediate_addi16sp-zero,
  immediate_addi16sp-nonzero,
  no_upper_of_zero,
)
