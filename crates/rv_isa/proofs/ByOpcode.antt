-- The rows of one opcode.
use Rattle.std.proofs.Common.{◌≡◌, ◌≢◌, ℕ, ◌<◌, ◌^◌, Bool, true, false, cond, ◌&&◌, ◌++◌, eqb, Option, Some, None, refl}
use Rattle.std.proofs.Common.{inl, inr, sym, ◌∙◌, ap, arith}
use Rattle.std.specs.Option.{option_map}
use Rattle.std.proofs.lemmas.Bool.{ne_eqb, eqb-false, eqb-true, cases_Bool}
use Rattle.rv_isa.specs.Bits.{field}
use Rattle.rv_isa.specs.declared.instruction.Op.{Op}
use Rattle.rv_isa.specs.declared.instruction.Op.TheVariants as op
use Rattle.rv_isa.specs.Words.{rows, instruction, meaning32, op_with_funct3, branches, loads, stores, immediate_ops, shifts}
use Rattle.rv_isa.specs.Words.{arithmetic_shifts, register_ops, register_alternate_ops, muldiv_ops, fences, instruction_fences}
use Rattle.rv_isa.specs.Words.{TypeR, TypeI, TypeShift, TypeS, TypeB, TypeU, TypeJ, NoOperands}
use Rattle.rv_isa.specs.declared.isa.Isa.{Isa}
use Rattle.rv_isa.specs.Extensions.{has_extension, has_m, RV32M}
use Rattle.rv_isa.proofs.Fields.{field-low, field_whole}

-- a word with another opcode is no whole word of the system opcode
not_word : (w v : ℕ) → eqb (field w 6 0) (field v 6 0) ≡ false → eqb (field w 31 0) v ≡ false
not_word w v h =
    ne_eqb (field w 31 0) v
    (λ e. eqb-false (field w 6 0) (field v 6 0) h
    (sym (field-low w 31 6 0 (omega arith) (omega arith)) ∙ ap (λ x. field x 6 0) e))

option_map-cond : {A B : Type 0} (g : A → B) (b : Bool) (x : A) (o : Option A)
    → option_map g (cond b (Some x) o) ≡ cond b (Some (g x)) (option_map g o)
option_map-cond g true x o = refl
option_map-cond g false x o = refl

-- the first answer, or else the second
abbrev pub option_or : {A : Type 0} → Option A → Option A → Option A
option_or None o = o
option_or (Some x) o = Some x

option_or-cond : {A : Type 0} (b : Bool) (x : A) (o q : Option A)
    → option_or (cond b (Some x) o) q ≡ cond b (Some x) (option_or o q)
option_or-cond true x o q = refl
option_or-cond false x o q = refl

and_true : (b : Bool) → (b && true) ≡ b
and_true true = refl
and_true false = refl

and_false : (b : Bool) → (b && false) ≡ false
and_false true = refl
and_false false = refl

pub at_lui : (isa : Isa) (w : ℕ) → field w 6 0 ≡ 0x37 → meaning32 isa w ≡ Some (instruction op.Lui TypeU w)
unfolding meaning32 rows
at_lui isa w o = rw o refl

pub at_auipc : (isa : Isa) (w : ℕ) → field w 6 0 ≡ 0x17 → meaning32 isa w ≡ Some (instruction op.Auipc TypeU w)
unfolding meaning32 rows
at_auipc isa w o = rw o refl

pub at_jal : (isa : Isa) (w : ℕ) → field w 6 0 ≡ 0x6f → meaning32 isa w ≡ Some (instruction op.Jal TypeJ w)
unfolding meaning32 rows
at_jal isa w o = rw o refl

pub at_jalr : (isa : Isa) (w : ℕ) → field w 6 0 ≡ 0x67
    → meaning32 isa w ≡ cond (eqb (field w 14 12) 0) (Some (instruction op.Jalr TypeI w)) None
unfolding meaning32 rows field
at_jalr isa w o = let e = not_word w 0x73 (rw o refl) in let b = not_word w 0x100073 (rw o refl) in
    rw (o, e, b) (simp (and_true, and_false) refl)

pub at_branch : (isa : Isa) (w : ℕ) → field w 6 0 ≡ 0x63
    → meaning32 isa w ≡ option_map (λ n. instruction n TypeB w) (op_with_funct3 branches (field w 14 12))
unfolding meaning32 rows field
at_branch isa w o = let e = not_word w 0x73 (rw o refl) in let b = not_word w 0x100073 (rw o refl) in
    rw (o, e, b) (simp (option_map-cond, and_true, and_false))

pub at_load : (isa : Isa) (w : ℕ) → field w 6 0 ≡ 0x03
    → meaning32 isa w ≡ option_map (λ n. instruction n TypeI w) (op_with_funct3 loads (field w 14 12))
unfolding meaning32 rows field
at_load isa w o = let e = not_word w 0x73 (rw o refl) in let b = not_word w 0x100073 (rw o refl) in
    rw (o, e, b) (simp (option_map-cond, and_true, and_false))

pub at_store : (isa : Isa) (w : ℕ) → field w 6 0 ≡ 0x23
    → meaning32 isa w ≡ option_map (λ n. instruction n TypeS w) (op_with_funct3 stores (field w 14 12))
unfolding meaning32 rows field
at_store isa w o = let e = not_word w 0x73 (rw o refl) in let b = not_word w 0x100073 (rw o refl) in
    rw (o, e, b) (simp (option_map-cond, and_true, and_false))

pub at_fence : (isa : Isa) (w : ℕ) → field w 6 0 ≡ 0x0f
    → meaning32 isa w
    ≡ option_map (λ n. instruction n NoOperands w) (op_with_funct3 (fences ++ instruction_fences) (field w 14 12))
unfolding meaning32 rows field
at_fence isa w o = let e = not_word w 0x73 (rw o refl) in let b = not_word w 0x100073 (rw o refl) in
    rw (o, e, b) (simp (option_map-cond, and_true, and_false))

pub at_register : (isa : Isa) (w : ℕ) → field w 6 0 ≡ 0x33
    → meaning32 isa w
    ≡ option_map (λ n. instruction n TypeR w)
    (cond (eqb (field w 31 25) 0) (op_with_funct3 register_ops (field w 14 12))
    (cond (eqb (field w 31 25) 32) (op_with_funct3 register_alternate_ops (field w 14 12))
    (cond (eqb (field w 31 25) 1 && has_extension isa RV32M) (op_with_funct3 muldiv_ops (field w 14 12)) None)))
unfolding meaning32 rows field
at_register isa w o =
    let e = not_word w 0x73 (rw o refl) in
    let b = not_word w 0x100073 (rw o refl) in
    elim (cases_Bool (eqb (field w 31 25) 0)) [
      | inl t ↦ (let f = eqb-true (field w 31 25) 0 t in rw (o, e, b, f) (simp (option_map-cond, and_true, and_false)))
      | inr p ↦ elim (cases_Bool (eqb (field w 31 25) 32)) [
        | inl t ↦
            (let f = eqb-true (field w 31 25) 32 t in rw (o, e, b, f) (simp (option_map-cond, and_true, and_false)))
        | inr q ↦ elim (cases_Bool (eqb (field w 31 25) 1)) [
          | inl t ↦ (let f = eqb-true (field w 31 25) 1 t in elim (cases_Bool (has_m isa)) [
            | inl m ↦ rw (o, e, b, f, m) (simp (option_map-cond, and_true))
            | inr m ↦ rw (o, e, b, f, m) refl
          ])
          | inr r ↦ rw (o, e, b, p, q, r) (simp (and_false))
        ]
      ]
    ]

pub at_immediate : (isa : Isa) (w : ℕ) → field w 6 0 ≡ 0x13
    → meaning32 isa w
    ≡ option_or (option_map (λ n. instruction n TypeI w) (op_with_funct3 immediate_ops (field w 14 12)))
    (option_map (λ n. instruction n TypeShift w)
    (cond (eqb (field w 31 25) 0) (op_with_funct3 shifts (field w 14 12))
    (cond (eqb (field w 31 25) 32) (op_with_funct3 arithmetic_shifts (field w 14 12)) None)))
unfolding meaning32 rows field
at_immediate isa w o =
    let e = not_word w 0x73 (rw o refl) in
    let b = not_word w 0x100073 (rw o refl) in
    elim (cases_Bool (eqb (field w 31 25) 0)) [
      | inl t ↦
          (let f = eqb-true (field w 31 25) 0 t in
          rw (o, e, b, f) (simp (option_map-cond, option_or-cond, and_true, and_false)))
      | inr p ↦ elim (cases_Bool (eqb (field w 31 25) 32)) [
        | inl t ↦
            (let f = eqb-true (field w 31 25) 32 t in
            rw (o, e, b, f) (simp (option_map-cond, option_or-cond, and_true, and_false)))
        | inr q ↦ rw (o, e, b, p, q) (simp (option_map-cond, option_or-cond, and_true, and_false))
      ]
    ]

option_or-None : {A : Type 0} (o : Option A) → option_or o None ≡ o
option_or-None None = refl
option_or-None (Some x) = refl

cond_same : {A : Type 0} (b : Bool) (x : A) → cond b x x ≡ x
cond_same true x = refl
cond_same false x = refl

-- the shifts have two funct3 of their own
pub at_left_shift : (isa : Isa) (w : ℕ) → field w 6 0 ≡ 0x13 → field w 14 12 ≡ 1
    → meaning32 isa w
    ≡ option_map (λ n. instruction n TypeShift w)
    (cond (eqb (field w 31 25) 0) (op_with_funct3 shifts (field w 14 12))
    (cond (eqb (field w 31 25) 32) (op_with_funct3 arithmetic_shifts (field w 14 12)) None))
at_left_shift isa w o p = at_immediate isa w o ∙ (rw p refl)

pub at_right_shift : (isa : Isa) (w : ℕ) → field w 6 0 ≡ 0x13 → field w 14 12 ≡ 5
    → meaning32 isa w
    ≡ option_map (λ n. instruction n TypeShift w)
    (cond (eqb (field w 31 25) 0) (op_with_funct3 shifts (field w 14 12))
    (cond (eqb (field w 31 25) 32) (op_with_funct3 arithmetic_shifts (field w 14 12)) None))
at_right_shift isa w o p = at_immediate isa w o ∙ (rw p refl)

pub at_plain_immediate : (isa : Isa) (w : ℕ) → field w 6 0 ≡ 0x13 → field w 14 12 ≢ 1 → field w 14 12 ≢ 5
    → meaning32 isa w ≡ option_map (λ n. instruction n TypeI w) (op_with_funct3 immediate_ops (field w 14 12))
at_plain_immediate isa w o p q =
    at_immediate isa w o
    ∙ (rw (
      ne_eqb (field w 14 12) 1 p,
      ne_eqb (field w 14 12) 5 q,
      cond_same {A = Option Op} (eqb (field w 31 25) 32) None,
      cond_same {A = Option Op} (eqb (field w 31 25) 0) None,
    )
    (option_or-None _))

pub at_system : (isa : Isa) (w : ℕ) → w < 2 ^ 32 → field w 6 0 ≡ 0x73
    → meaning32 isa w
    ≡ cond (eqb w 0x73) (Some (instruction op.Ecall NoOperands w))
    (cond (eqb w 0x100073) (Some (instruction op.Ebreak NoOperands w)) None)
unfolding meaning32 rows
at_system isa w h o = rw (o, field_whole w h) (simp (and_true, and_false))

at_none : (isa : Isa) (w : ℕ) → eqb (field w 6 0) 0x37 ≡ false → eqb (field w 6 0) 0x17 ≡ false
    → eqb (field w 6 0) 0x6f ≡ false → eqb (field w 6 0) 0x67 ≡ false → eqb (field w 6 0) 0x63 ≡ false
    → eqb (field w 6 0) 0x03 ≡ false → eqb (field w 6 0) 0x23 ≡ false → eqb (field w 6 0) 0x13 ≡ false
    → eqb (field w 6 0) 0x33 ≡ false → eqb (field w 6 0) 0x0f ≡ false → eqb (field w 6 0) 0x73 ≡ false
    → meaning32 isa w ≡ None
unfolding meaning32 rows field
at_none isa w a b c d e f g h i j k =
    let ecall = not_word w 0x73 k in
    let ebreak = not_word w 0x100073 k in
    rw (a, b, c, d, e, f, g, h, i, j, ecall, ebreak) (simp and_false)

-- no row has another opcode
pub at_other : (isa : Isa) (w : ℕ) → field w 6 0 ≢ 0x37 → field w 6 0 ≢ 0x17 → field w 6 0 ≢ 0x6f → field w 6 0 ≢ 0x67
    → field w 6 0 ≢ 0x63 → field w 6 0 ≢ 0x03 → field w 6 0 ≢ 0x23 → field w 6 0 ≢ 0x13 → field w 6 0 ≢ 0x33
    → field w 6 0 ≢ 0x0f → field w 6 0 ≢ 0x73 → meaning32 isa w ≡ None
at_other isa w a b c d e f g h i j k =
    let o = field w 6 0 in
    at_none isa w (ne_eqb o 0x37 a) (ne_eqb o 0x17 b) (ne_eqb o 0x6f c) (ne_eqb o 0x67 d) (ne_eqb o 0x63 e)
    (ne_eqb o 0x03 f) (ne_eqb o 0x23 g) (ne_eqb o 0x13 h) (ne_eqb o 0x33 i) (ne_eqb o 0x0f j) (ne_eqb o 0x73 k)

pub ruleset by_opcode = (
  at_lui,
  at_auipc,
  at_jal,
  at_jalr,
  at_branch,
  at_load,
  at_store,
  at_fence,
  at_register,
  at_left_shift,
  at_right_shift,
  at_plain_immediate,
  at_system,
  at_other,
)
