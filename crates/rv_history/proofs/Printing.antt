-- What is printed stays: the output at a place begins with that at each place before.
use Rattle.std.proofs.Common.{◌≡◌, ◌∙◌, ◌≤◌, ◌++◌, ◌∷◌, ◌%◌, ◌/◌, ◌*◌, [], ℕ, zero, suc, Bool, true, false, cond, List, length, drop, Result, Ok, Err, ap, append-nil, append_assoc, arith, eqb, ltb, not, refl, subst, sym}
use Rattle.std.specs.Prelude.{slice_set}
use Rattle.rv_trace.specs.declared_instruction.Instr.{Instr}
use Rattle.rv_trace.specs.declared_instruction.Op.{Op}
use Rattle.rv_trace.specs.declared_instruction.Op.TheVariants as op
use Rattle.rv_trace.specs.Bus.{BusContents, console_load, console_store, load_from, next_script_byte, put, rejects, size_of, store_to, touches_console, value_at}
use Rattle.rv_trace.specs.Regions.{is_in_one_region, is_in_writable_region}
use Rattle.rv_trace.specs.declared_access.Width.{Width}
use Rattle.rv_trace.specs.declared_access.Width.TheVariants.{Byte, Half, Word}
use Rattle.rv_trace.specs.declared_faults.BusFault.{BusFault}
use Rattle.rv_trace.specs.declared_faults.BusFault.TheVariants.{Access, ConsoleFull, Misaligned}
use Rattle.rv_trace.specs.declared_ending.Ending.{Ending}
use Rattle.rv_trace.specs.State.{State, with_pc, is_misaligned, with_bus, with_register}
use Rattle.rv_trace.specs.Fetch.{FetchResult, fetch}
use Rattle.rv_trace.specs.Effect.{address, after_branch, after_store, jump_to, effect, effect_of, pc_plus_immediate, next_pc, rs2_value, store}
use Rattle.rv_trace.specs.Run.{after_fetch, step_of}
use Rattle.rv_trace.proofs.Public.{ok_is}
use Rattle.rv_trace.specs.Trace.{state_after}
use Rattle.rv_trace.proofs.Public.{after_none}
use Rattle.rv_history.specs.Printing.{BeginsWith}
use Rattle.rv_history.proofs.Reaching.{by_step, state_end, state_first}

-- a state has printed what another has, and maybe more
abbrev Grows : State → State → Type 0
Grows s u = BeginsWith u.bus.output s.bus.output

same_begins : (whole front : List ℕ) → whole ≡ front → BeginsWith whole front
same_begins whole front same = record { rest = []; text_is = same ∙ sym (append-nil front) }

begins_on : (whole middle front : List ℕ) → BeginsWith middle front → BeginsWith whole middle → BeginsWith whole front
begins_on whole middle front first second = record {
  rest = first.rest ++ second.rest;
  text_is = second.text_is ∙ ap (λ (text : List ℕ). text ++ second.rest) first.text_is
      ∙ append_assoc front first.rest second.rest;
}

all_of : (s : State) → BeginsWith s.bus.output s.bus.output
all_of s = same_begins s.bus.output s.bus.output refl

by_test : {A E : Type 0} (P : A → Type 0) (b : Bool) (x y : Result A E) → ok_is P x → ok_is P y → ok_is P (cond b x y)
by_test P true x y p q = p
by_test P false x y p q = q

-- ---- accesses

abbrev Prints : BusContents → BusContents → Type 0
Prints c d = BeginsWith d.output c.output

console_grows : (c : BusContents) (a : ℕ) (w : Width) (v : ℕ) → ok_is (Prints c) (console_store c a w v)
console_grows c a Byte v = tt
console_grows c a Half v = tt
console_grows c a Word v =
    let written : Result BusContents BusFault = Ok (record c { output = c.output ++ (v % 0x100) ∷ [] }) in
    let r : Result BusContents BusFault = cond (ltb (length c.output) 0x1_0000) written (Err ConsoleFull) in
    by_test (Prints c) (not (eqb a 0x1000_0000)) (Err Access) r tt
    (by_test (Prints c) (ltb (length c.output) 0x1_0000) written (Err ConsoleFull)
    (record { rest = (v % 0x100) ∷ []; text_is = refl }) tt)

put_prints : (c : BusContents) (a : ℕ) (w : Width) (v : ℕ) → Prints c (put c a w v)
put_prints c a Byte v = same_begins c.output c.output refl
put_prints c a Half v = same_begins c.output c.output refl
put_prints c a Word v = same_begins c.output c.output refl

store_prints : (c : BusContents) (a : ℕ) (w : Width) (v : ℕ) → ok_is (Prints c) (store_to c a w v)
store_prints c a w v =
    let put_there : Result BusContents BusFault = cond (is_in_writable_region c.regions a (size_of w)) (Ok (put c a w v)) (Err Access) in
    let r : Result BusContents BusFault = cond (touches_console a (size_of w)) (console_store c a w v) put_there in
    by_test (Prints c) (rejects c.misaligned a w) (Err Misaligned) r tt
    (by_test (Prints c) (touches_console a (size_of w)) (console_store c a w v) put_there (console_grows c a w v)
    (by_test {E = BusFault} (Prints c) (is_in_writable_region c.regions a (size_of w)) (Ok (put c a w v)) (Err Access)
    (put_prints c a w v) tt))

abbrev Loads : BusContents → ℕ × BusContents → Type 0
Loads c p = BeginsWith p.1.output c.output

console_loads : (c : BusContents) (a : ℕ) (w : Width) → ok_is (Loads c) (console_load c a w)
console_loads c a Byte = tt
console_loads c a Half = tt
console_loads c a Word =
    let taken : Result (ℕ × BusContents) BusFault = Ok (next_script_byte c.script, record c { script = drop 1 c.script }) in
    let left : Result (ℕ × BusContents) BusFault = Ok (length c.script, c) in
    let r : Result (ℕ × BusContents) BusFault = cond (eqb a 0x1000_0004) left (Err Access) in
    by_test (Loads c) (eqb a 0x1000_0000) taken r (same_begins c.output c.output refl)
    (by_test (Loads c) (eqb a 0x1000_0004) left (Err Access) (same_begins c.output c.output refl) tt)

loads : (c : BusContents) (a : ℕ) (w : Width) → ok_is (Loads c) (load_from c a w)
loads c a w =
    let outcome : Result (ℕ × BusContents) BusFault = cond (is_in_one_region c.regions a (size_of w)) (Ok (value_at c.memory a w, c)) (Err Access) in
    let r : Result (ℕ × BusContents) BusFault = cond (touches_console a (size_of w)) (console_load c a w) outcome in
    by_test (Loads c) (rejects c.misaligned a w) (Err Misaligned) r tt
    (by_test (Loads c) (touches_console a (size_of w)) (console_load c a w) outcome (console_loads c a w)
    (by_test {E = BusFault} (Loads c) (is_in_one_region c.regions a (size_of w)) (Ok (value_at c.memory a w, c)) (Err Access)
    (same_begins c.output c.output refl) tt))

-- ---- instructions

either_bus : (s u : State) (none : Bool) → u.bus ≡ s.bus → (cond none s u).bus ≡ s.bus
either_bus s u true same = refl
either_bus s u false same = same

written_bus : (s : State) (n v : ℕ) → (with_register s n v).bus ≡ s.bus
written_bus s n v = either_bus s (record s { registers = slice_set s.registers n v }) (eqb n 0) refl

written : (s : State) (n v : ℕ) → Grows s (with_register s n v)
written s n v = same_begins _ s.bus.output (ap (λ (c : BusContents). c.output) (written_bus s n v))

gone : (s : State) (target : ℕ) (after : State) → Grows s after → ok_is (Grows s) (jump_to s target after)
gone s target after h = by_test {E = Ending} (Grows s) (is_misaligned s.isa target) (Err _) (Ok (with_pc after target)) tt h

branch : (holds : Bool) (s : State) (i : Instr) (next : ℕ) → ok_is (Grows s) (after_branch holds s i next)
branch true s i next = gone s (pc_plus_immediate s i) s (all_of s)
branch false s i next = all_of s

-- by the answer of a load
by_load : (s : State) (i : Instr) (w : Width) (P : Type 0) → ((p : ℕ × BusContents) → load_from s.bus (address s i) w ≡ Ok p → P)
    → ((e : BusFault) → load_from s.bus (address s i) w ≡ Err e → P) → P
by_load s i w P ok err =
    elim (load_from s.bus (address s i) w) as (λ r. load_from s.bus (address s i) w ≡ r → P) [ Ok p ↦ ok p | Err e ↦ err e ] refl

-- what a load leaves, with a register written
loaded : (s : State) (i : Instr) (w : Width) (p : ℕ × BusContents) (n v : ℕ) → load_from s.bus (address s i) w ≡ Ok p
    → Grows s (with_register (with_bus s p.1) n v)
loaded s i w p n v e = begins_on _ p.1.output s.bus.output (subst (ok_is (Loads s.bus)) e (loads s.bus (address s i) w))
    (written (with_bus s p.1) n v)

store_grows : (w : Width) (i : Instr) (next : ℕ) (s : State) → ok_is (Grows s) (store w s i next)
store_grows w i next s = go (store_to s.bus (address s i) w (rs2_value s i)) (store_prints s.bus (address s i) w (rs2_value s i))
  where
    go : (r : Result BusContents BusFault) → ok_is (Prints s.bus) r → ok_is (Grows s) (after_store r s i next)
    go (Ok d) k = k
    go (Err e) k = tt

effect_grows : (o : Op) (i : Instr) (n : ℕ) (s : State) → ok_is (Grows s) (effect_of o i (next_pc s n) s)
effect_grows op.Lui i n s = written s i.rd _
effect_grows op.Auipc i n s = written s i.rd _
effect_grows op.Jal i n s = gone s (pc_plus_immediate s i) (with_register s i.rd (next_pc s n)) (written s i.rd _)
effect_grows op.Jalr i n s = gone s (address s i / 2 * 2) (with_register s i.rd (next_pc s n)) (written s i.rd _)
effect_grows op.Beq i n s = branch _ s i (next_pc s n)
effect_grows op.Bne i n s = branch _ s i (next_pc s n)
effect_grows op.Blt i n s = branch _ s i (next_pc s n)
effect_grows op.Bge i n s = branch _ s i (next_pc s n)
effect_grows op.Bltu i n s = branch _ s i (next_pc s n)
effect_grows op.Bgeu i n s = branch _ s i (next_pc s n)
effect_grows op.Lb i n s = by_load s i Byte _ (λ p e. rw e (loaded s i Byte p i.rd _ e)) (λ f e. rw e tt)
effect_grows op.Lh i n s = by_load s i Half _ (λ p e. rw e (loaded s i Half p i.rd _ e)) (λ f e. rw e tt)
effect_grows op.Lw i n s = by_load s i Word _ (λ p e. rw e (loaded s i Word p i.rd _ e)) (λ f e. rw e tt)
effect_grows op.Lbu i n s = by_load s i Byte _ (λ p e. rw e (loaded s i Byte p i.rd _ e)) (λ f e. rw e tt)
effect_grows op.Lhu i n s = by_load s i Half _ (λ p e. rw e (loaded s i Half p i.rd _ e)) (λ f e. rw e tt)
effect_grows op.Sb i n s = store_grows Byte i (next_pc s n) s
effect_grows op.Sh i n s = store_grows Half i (next_pc s n) s
effect_grows op.Sw i n s = store_grows Word i (next_pc s n) s
effect_grows op.Addi i n s = written s i.rd _
effect_grows op.Slti i n s = written s i.rd _
effect_grows op.Sltiu i n s = written s i.rd _
effect_grows op.Xori i n s = written s i.rd _
effect_grows op.Ori i n s = written s i.rd _
effect_grows op.Andi i n s = written s i.rd _
effect_grows op.Slli i n s = written s i.rd _
effect_grows op.Srli i n s = written s i.rd _
effect_grows op.Srai i n s = written s i.rd _
effect_grows op.Add i n s = written s i.rd _
effect_grows op.Sub i n s = written s i.rd _
effect_grows op.Sll i n s = written s i.rd _
effect_grows op.Slt i n s = written s i.rd _
effect_grows op.Sltu i n s = written s i.rd _
effect_grows op.Xor i n s = written s i.rd _
effect_grows op.Srl i n s = written s i.rd _
effect_grows op.Sra i n s = written s i.rd _
effect_grows op.Or i n s = written s i.rd _
effect_grows op.And i n s = written s i.rd _
effect_grows op.Fence i n s = all_of s
effect_grows op.FenceI i n s = all_of s
effect_grows op.Ecall i n s = tt
effect_grows op.Ebreak i n s = tt
effect_grows op.Mul i n s = written s i.rd _
effect_grows op.Mulh i n s = written s i.rd _
effect_grows op.Mulhsu i n s = written s i.rd _
effect_grows op.Mulhu i n s = written s i.rd _
effect_grows op.Div i n s = written s i.rd _
effect_grows op.Divu i n s = written s i.rd _
effect_grows op.Rem i n s = written s i.rd _
effect_grows op.Remu i n s = written s i.rd _

step_grows : (s : State) → ok_is (Grows s) (step_of s)
unfolding step_of effect
step_grows s = go (fetch s.isa s.bus s.pc)
  where
    go : (r : FetchResult) → ok_is (Grows s) (after_fetch r s)
    go (Ok p) = effect_grows p.0.op p.0 p.1 s
    go (Err e) = tt

step_prints : (s t : State) → step_of s ≡ Ok t → BeginsWith t.bus.output s.bus.output
step_prints s t e = subst (ok_is (Grows s)) e (step_grows s)

-- ---- runs

run_prints : (n : ℕ) (s : State) → BeginsWith (state_after n s).bus.output s.bus.output
run_prints zero s = same_begins _ s.bus.output (ap (λ (u : State). u.bus.output) (after_none s))
run_prints (suc n) s = by_step s (BeginsWith (state_after (suc n) s).bus.output s.bus.output)
    (λ t e. subst (λ (u : State). BeginsWith u.bus.output s.bus.output) (sym (state_first n s t e))
    (begins_on (state_after n t).bus.output t.bus.output s.bus.output (step_prints s t e) (run_prints n t)))
    (λ e is. same_begins _ s.bus.output (ap (λ (u : State). u.bus.output) (state_end n s e is)))

-- the output at a place begins with that at a place before
pub printed_stays : (i j : ℕ) (s : State) → i ≤ j → BeginsWith (state_after j s).bus.output (state_after i s).bus.output
printed_stays zero j s low =
    subst (λ (u : State). BeginsWith (state_after j s).bus.output u.bus.output) (sym (after_none s)) (run_prints j s)
printed_stays (suc i) zero s low = absurd (omega arith)
printed_stays (suc i) (suc j) s low = by_step s (BeginsWith (state_after (suc j) s).bus.output (state_after (suc i) s).bus.output)
    (λ t e. subst (λ (u : State). BeginsWith u.bus.output (state_after (suc i) s).bus.output) (sym (state_first j s t e))
    (subst (λ (u : State). BeginsWith (state_after j t).bus.output u.bus.output) (sym (state_first i s t e))
    (printed_stays i j t (omega arith))))
    (λ e is. same_begins _ _ (ap (λ (u : State). u.bus.output) (state_end j s e is ∙ sym (state_end i s e is))))
