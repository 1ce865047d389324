-- Where a step ends a run, and whether it had begun an instruction.
use Rattle.std.proofs.Common.{◌≡◌, ◌∙◌, ◌==◌, ◌+◌, ◌*◌, ◌/◌, ◌%◌, ◌&&◌, not, ℕ, Bool, true, false, cond, Option, Some, None, Result, Ok, Err, refl, sym, ap, subst, arith}
use Rattle.std.proofs.lemmas.Bool.{false≢true}
use Rattle.std.specs.Prelude.{option_and_then}
use Rattle.rv_trace.specs.declared_instruction.Instr.{Instr}
use Rattle.rv_trace.specs.declared_instruction.Op.{Op}
use Rattle.rv_trace.specs.declared_instruction.Op.TheVariants as op
use Rattle.rv_trace.specs.declared_isa.Isa.{Isa}
use Rattle.rv_trace.specs.Bits.{field}
use Rattle.rv_trace.specs.IsaWords.{meaning32}
use Rattle.rv_trace.specs.Halfwords.{meaning16}
use Rattle.rv_trace.specs.Bus.{BusContents, load_from, store_to, fetch_half_from}
use Rattle.rv_trace.specs.declared_access.Width.{Width}
use Rattle.rv_trace.specs.declared_faults.BusFault.{BusFault}
use Rattle.rv_trace.specs.declared_faults.BusFault.TheVariants as bus
use Rattle.rv_trace.specs.declared_faults.FetchFault.{FetchFault}
use Rattle.rv_trace.specs.declared_faults.FetchFault.TheVariants.{Unmapped, Stale}
use Rattle.rv_trace.specs.declared_ending.Ending.{Ending}
use Rattle.rv_trace.specs.declared_ending.Ending.TheVariants.{Exit, Fault}
use Rattle.rv_trace.specs.declared_ending.FaultKind.TheVariants as fault
use Rattle.rv_trace.specs.State.{State, register, is_misaligned}
use Rattle.rv_trace.specs.Effect.{effect, effect_of, after_branch, pc_plus_immediate, address, rs2_value, load, after_load, store, after_store, fault_of_load, fault_of_store, next_pc}
use Rattle.rv_trace.specs.Fetch.{FetchResult, fetch, after_half_fetch, decoded_or_illegal, fault_of_fetch, second_half_address}
use Rattle.rv_trace.specs.Run.{RunResult, after_fetch, step_of, run_of, run_after_step}
use Rattle.rv_trace.specs.declared.code.Code.{Code}
use Rattle.rv_trace.specs.Code.{code_at, instr_of}
use Rattle.rv_trace.proofs.Public.{code_is_fetched}
use Rattle.rv_counting.specs.Coverage.{fetch_at, is_executed, is_taken, is_taken_step, is_executed_at_fault, is_executed_at_end, is_branch_instr, is_taken_code}

-- what holds of an error
abbrev pub err_is : {A E : Type 0} → (E → Type 0) → Result A E → Type 0
err_is P (Ok x) = Unit {0}
err_is P (Err e) = P e

-- ---- an effect that ends the run is of an instruction that was fetched

abbrev IsOfEffect : Result State Ending → Type 0
IsOfEffect r = err_is (λ e. is_executed_at_end e ≡ true) r

gone : (misaligned : Bool) (s after : State) (target : ℕ)
    → IsOfEffect (cond misaligned (Err (Fault fault.FetchMisaligned s.pc target)) (Ok after))
gone true s after target = refl
gone false s after target = tt

branched : (holds : Bool) (s : State) (i : Instr) (next : ℕ) → IsOfEffect (after_branch holds s i next)
branched true s i next = gone (is_misaligned s.isa (pc_plus_immediate s i)) s _ (pc_plus_immediate s i)
branched false s i next = tt

of_load : (e : BusFault) → is_executed_at_fault (fault_of_load e) ≡ true
of_load bus.Misaligned = refl
of_load bus.Access = refl
of_load bus.ConsoleFull = refl

loaded : (w : Width) (x : _) (i : Instr) (next : ℕ) (s : State) → IsOfEffect (load w x s i next)
loaded w x i next s = go (load_from s.bus (address s i) w)
  where
    go : (r : Result (ℕ × BusContents) BusFault) → IsOfEffect (after_load r w x s i next)
    go (Ok p) = tt
    go (Err e) = of_load e

of_store : (e : BusFault) (pc at value : ℕ) → is_executed_at_end (fault_of_store e pc at value) ≡ true
of_store bus.Misaligned pc at value = refl
of_store bus.Access pc at value = refl
of_store bus.ConsoleFull pc at value = refl

stored : (w : Width) (i : Instr) (next : ℕ) (s : State) → IsOfEffect (store w s i next)
stored w i next s = go (store_to s.bus (address s i) w (rs2_value s i))
  where
    go : (r : Result BusContents BusFault) → IsOfEffect (after_store r s i next)
    go (Ok d) = tt
    go (Err e) = of_store e s.pc (address s i) (rs2_value s i)

called : (t : Bool) (s : State) → is_executed_at_end (cond t (Exit (register s 10)) (Fault fault.UnknownCall s.pc (register s 17))) ≡ true
called true s = refl
called false s = refl

effect_begins : (o : Op) (i : Instr) (next : ℕ) (s : State) → IsOfEffect (effect_of o i next s)
effect_begins op.Jal i next s = gone (is_misaligned s.isa (pc_plus_immediate s i)) s _ (pc_plus_immediate s i)
effect_begins op.Jalr i next s = gone (is_misaligned s.isa (address s i / 2 * 2)) s _ (address s i / 2 * 2)
effect_begins op.Beq i next s = branched _ s i next
effect_begins op.Bne i next s = branched _ s i next
effect_begins op.Blt i next s = branched _ s i next
effect_begins op.Bge i next s = branched _ s i next
effect_begins op.Bltu i next s = branched _ s i next
effect_begins op.Bgeu i next s = branched _ s i next
effect_begins op.Lb i next s = loaded _ _ i next s
effect_begins op.Lh i next s = loaded _ _ i next s
effect_begins op.Lw i next s = loaded _ _ i next s
effect_begins op.Lbu i next s = loaded _ _ i next s
effect_begins op.Lhu i next s = loaded _ _ i next s
effect_begins op.Sb i next s = stored _ i next s
effect_begins op.Sh i next s = stored _ i next s
effect_begins op.Sw i next s = stored _ i next s
effect_begins op.Ecall i next s = called (register s 17 == 93) s
effect_begins op.Ebreak i next s = refl
effect_begins op.Lui i next s = tt
effect_begins op.Auipc i next s = tt
effect_begins op.Addi i next s = tt
effect_begins op.Slti i next s = tt
effect_begins op.Sltiu i next s = tt
effect_begins op.Xori i next s = tt
effect_begins op.Ori i next s = tt
effect_begins op.Andi i next s = tt
effect_begins op.Slli i next s = tt
effect_begins op.Srli i next s = tt
effect_begins op.Srai i next s = tt
effect_begins op.Add i next s = tt
effect_begins op.Sub i next s = tt
effect_begins op.Sll i next s = tt
effect_begins op.Slt i next s = tt
effect_begins op.Sltu i next s = tt
effect_begins op.Xor i next s = tt
effect_begins op.Srl i next s = tt
effect_begins op.Sra i next s = tt
effect_begins op.Or i next s = tt
effect_begins op.And i next s = tt
effect_begins op.Fence i next s = tt
effect_begins op.FenceI i next s = tt
effect_begins op.Mul i next s = tt
effect_begins op.Mulh i next s = tt
effect_begins op.Mulhsu i next s = tt
effect_begins op.Mulhu i next s = tt
effect_begins op.Div i next s = tt
effect_begins op.Divu i next s = tt
effect_begins op.Rem i next s = tt
effect_begins op.Remu i next s = tt

-- ---- a fetch that gives none

of_fetch : (e : FetchFault) → is_executed_at_fault (fault_of_fetch e) ≡ false
of_fetch Unmapped = refl
of_fetch Stale = refl

abbrev IsNoInstr : FetchResult → Type 0
IsNoInstr r = err_is (λ f. is_executed_at_fault f.0 ≡ false) r

behind_half : (r : Result ℕ FetchFault) (a : ℕ) (rest : ℕ → FetchResult) → ((h : ℕ) → IsNoInstr (rest h))
    → IsNoInstr (after_half_fetch r a rest)
behind_half (Ok h) a rest k = k h
behind_half (Err e) a rest k = of_fetch e

meant : (i : Option Instr) (n bits : ℕ) → IsNoInstr (decoded_or_illegal i n bits)
meant (Some i) n bits = tt
meant None n bits = refl

by_length : (long : Bool) (a b : FetchResult) → IsNoInstr a → IsNoInstr b → IsNoInstr (cond long a b)
by_length true a b h k = h
by_length false a b h k = k

fetch_begins_none : (isa : Isa) (contents : BusContents) (pc : ℕ) → IsNoInstr (fetch isa contents pc)
unfolding fetch
fetch_begins_none isa contents pc =
    behind_half (fetch_half_from contents pc) pc _
    (λ low. by_length (field low 1 0 == 3) _ _
    (behind_half (fetch_half_from contents (second_half_address pc)) (second_half_address pc) _
    (λ high. meant (meaning32 isa (low + 0x1_0000 * high)) 4 (low + 0x1_0000 * high)))
    (meant (meaning16 isa low) 2 low))

-- ---- a step

-- what a step says of its fetch
abbrev Tells : FetchResult → Result State Ending → Type 0
Tells r (Ok t) = is_executed r ≡ true
Tells r (Err e) = is_executed_at_end e ≡ is_executed r

effect_tells : (p : Instr × ℕ) (r : Result State Ending) → IsOfEffect r → Tells (Ok p) r
effect_tells p (Ok t) h = refl
effect_tells p (Err e) h = h

fetch_tells : (r : FetchResult) (s : State) → IsNoInstr r → Tells r (after_fetch r s)
unfolding effect
fetch_tells (Ok p) s h = effect_tells p (effect_of p.0.op p.0 (next_pc s p.1) s) (effect_begins p.0.op p.0 (next_pc s p.1) s)
fetch_tells (Err f) s h = h

step_tells : (s : State) → Tells (fetch_at s) (step_of s)
unfolding step_of
step_tells s = fetch_tells (fetch_at s) s (fetch_begins_none s.isa s.bus s.pc)

pub completed_begins : (s t : State) → step_of s ≡ Ok t → is_executed (fetch_at s) ≡ true
completed_begins s t e = subst (λ (r : Result State Ending). Tells (fetch_at s) r) e (step_tells s)

pub ended_begins : (s : State) (e : Ending) → step_of s ≡ Err e → is_executed_at_end e ≡ is_executed (fetch_at s)
ended_begins s e is = subst (λ (r : Result State Ending). Tells (fetch_at s) r) is (step_tells s)

-- ---- a run of one step

abbrev RanOnce : Result State Ending → State → RunResult → Type 0
RanOnce (Ok u) s ran = (ran.steps ≡ 1) × (ran.state ≡ u)
RanOnce (Err e) s ran = (ran.steps ≡ 0) × (ran.state ≡ s) × (ran.ending ≡ e)

ran_once : (s : State) (r : Result State Ending) → RanOnce r s (run_after_step r s (λ t. run_of 0 t))
unfolding run_of
ran_once s (Ok u) = (refl, refl)
ran_once s (Err e) = (refl, refl, refl)

one_run : (s : State) → RanOnce (step_of s) s (run_of 1 s)
unfolding run_of
one_run s = ran_once s (step_of s)

some_not_none : (n : ℕ) → n ≡ 1 → n ≡ 0 → ⊥
some_not_none n h k = omega arith

-- where no step was completed, the step ended the run
pub ended_of : (s t : State) (e : Ending) (n : ℕ) → run_of 1 s ≡ record { ending = e; steps = n; state = t } → n ≡ 0
    → (step_of s ≡ Err e) × (t ≡ s)
ended_of s t e n is none =
    let h = subst (λ (ran : RunResult). RanOnce (step_of s) s ran) is (one_run s) in by (step_of s) refl h
  where
    by : (r : Result State Ending) → step_of s ≡ r → RanOnce r s (record { ending = e; steps = n; state = t })
        → (step_of s ≡ Err e) × (t ≡ s)
    by (Ok u) k h = absurd (some_not_none n h.0 none)
    by (Err x) k h = (k ∙ ap (λ (y : Ending). Err y) (sym h.2), h.1)

-- where one was completed, this is the state behind it
pub completed_of : (s t : State) (e : Ending) (n : ℕ) → run_of 1 s ≡ record { ending = e; steps = n; state = t }
    → (n ≡ 0 → ⊥) → step_of s ≡ Ok t
completed_of s t e n is some =
    let h = subst (λ (ran : RunResult). RanOnce (step_of s) s ran) is (one_run s) in by (step_of s) refl h
  where
    by : (r : Result State Ending) → step_of s ≡ r → RanOnce r s (record { ending = e; steps = n; state = t })
        → step_of s ≡ Ok t
    by (Ok u) k h = k ∙ ap (λ (y : State). Ok y) (sym h.1)
    by (Err x) k h = absurd (some h.0)

-- ---- a branch that is taken

pub begun_is : (r : FetchResult) → is_executed r ≡ true → (p : Instr × ℕ) × (r ≡ Ok p)
begun_is (Ok p) h = (p, refl)
begun_is (Err f) h = absurd (false≢true h)

pub taken_is : (s t : State) → step_of s ≡ Ok t → is_taken_code (code_at s.bus s.pc) s.pc t.pc ≡ is_taken_step (step_of s) s
taken_is s t e =
    let f = begun_is (fetch_at s) (completed_begins s t e) in
    let p = f.0 in
    let found = code_is_fetched s p.0 p.1 f.1 in
    let code = found.0 in
    let shown = found.1 in
    let instr : instr_of code ≡ Some p.0 = ap (λ (o : Option Code). option_and_then instr_of o) (sym shown.encoding) ∙ shown.instruction in
    ap (λ (o : Option Code). is_taken_code o s.pc t.pc) shown.encoding
    ∙ (λ i. is_branch_instr (instr i) && not (t.pc == (s.pc + shown.long i) % 0x1_0000_0000))
    ∙ sym (ap (λ (r : FetchResult). is_taken r s t) f.1)
    ∙ sym (ap (λ (r : Result State Ending). is_taken_step r s) e)
