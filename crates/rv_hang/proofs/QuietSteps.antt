-- A quiet step leaves the bus as it was, and the set of instructions.
use Rattle.std.proofs.Common.{◌≡◌, ◌∙◌, ◌==◌, ◌&&◌, ℕ, Bool, true, false, not, cond, List, [], ◌∷◌, Ok, Err, Result, Some}
use Rattle.std.proofs.Common.{sym, ap, refl, arith, drop, length}
use Rattle.std.proofs.lemmas.Bool.{both_ways, ne_eqb}
use Rattle.rv_trace.specs.declared_instruction.Instr.{Instr}
use Rattle.rv_trace.specs.declared_instruction.Op.{Op}
use Rattle.rv_trace.specs.declared_instruction.Op.TheVariants as op
use Rattle.rv_trace.specs.Bus.{BusContents, console_load, load_from, next_script_byte, rejects, size_of, store_to, touches_console, value_at}
use Rattle.rv_trace.specs.Regions.{is_in_one_region}
use Rattle.rv_trace.specs.declared_access.Width.{Width}
use Rattle.rv_trace.specs.declared_access.Width.TheVariants.{Byte, Half, Word}
use Rattle.rv_trace.specs.declared_faults.BusFault.{BusFault}
use Rattle.rv_trace.specs.declared_faults.BusFault.TheVariants as bus
use Rattle.rv_trace.specs.declared_ending.Ending.{Ending}
use Rattle.rv_trace.specs.Effect.{address, after_branch, after_store, jump_to, effect, effect_of, pc_plus_immediate}
use Rattle.rv_trace.specs.Effect.{next_pc, rs2_value, store}
use Rattle.rv_trace.specs.Fetch.{FetchResult, fetch}
use Rattle.rv_trace.specs.Run.{after_fetch, step_of}
use Rattle.rv_trace.specs.State.{State, with_pc, is_misaligned, with_bus, with_register}
use Rattle.rv_trace.proofs.Public.{byte_loaded, half_loaded, ok_is, word_loaded}
use Rattle.rv_trace.proofs.Public.{code_is_fetched}
use Rattle.rv_trace.specs.Steps.{instr_at}
use Rattle.rv_hang.specs.Quiet.{is_quiet_if_found, is_instr_quiet, is_step_quiet, is_store_redundant, consumes_script}
use Rattle.rv_hang.proofs.StoredAgain.{store_again}

-- the bus and the set stay
abbrev pub Same : State → State → Type 0
Same s t = (t.bus ≡ s.bus) × (t.isa ≡ s.isa)

abbrev Leaves : State → Result State Ending → Type 0
Leaves s = ok_is (Same s)

-- ---- registers and targets

by_number : (zero : Bool) (s : State) (registers : List ℕ) → Same s (cond zero s (record s { registers = registers }))
by_number true s registers = (refl, refl)
by_number false s registers = (refl, refl)

written : (s : State) (n v : ℕ) → Same s (with_register s n v)
written s n v = by_number (n == 0) s _

by_target : (misaligned : Bool) (s t : State) (e : Ending) → Same s t → Leaves s (cond misaligned (Err e) (Ok t))
by_target true s t e h = tt
by_target false s t e h = h

gone : (s : State) (target : ℕ) (after : State) → Same s after → Leaves s (jump_to s target after)
gone s target after h = by_target (is_misaligned s.isa target) s (with_pc after target) _ h

branch : (holds : Bool) (s : State) (i : Instr) (next : ℕ) → Leaves s (after_branch holds s i next)
branch true s i next = gone s (pc_plus_immediate s i) s (refl, refl)
branch false s i next = (refl, refl)

-- ---- loads

-- where a load takes no byte of the script, it leaves the bus
abbrev TakesNothing : BusContents → ℕ → Width → Type 0
TakesNothing c a Word = consumes_script c a ≡ false
TakesNothing c a w = Unit {0}

nothing_left : (script : List ℕ) → not (length script == 0) ≡ false → drop 1 script ≡ script
nothing_left [] h = refl
nothing_left (b ∷ bs) h =
    let some : (length (b ∷ bs) == 0) ≡ false = ne_eqb (length (b ∷ bs)) 0 (λ e. omega arith) in
    absurd (both_ways _ h (ap not some))

by_address : (first : Bool) (c : BusContents) (a v : ℕ) (other : Result (ℕ × BusContents) BusFault) (p : ℕ × BusContents)
    → (first && not (length c.script == 0)) ≡ false → (other ≡ Ok p → p.1 ≡ c)
    → cond first (Ok (v, record c { script = drop 1 c.script })) other ≡ Ok p → p.1 ≡ c
by_address true c a v other p h rest e =
    let taken : p.1 ≡ record c { script = drop 1 c.script } = cc in
    taken ∙ (λ i. record c { script = nothing_left c.script h i })
by_address false c a v other p h rest e = rest e

by_count : (second : Bool) (c : BusContents) (p : ℕ × BusContents)
    → cond second (Ok (length c.script, c)) (Err bus.Access) ≡ Ok p → p.1 ≡ c
by_count true c p e = cc
by_count false c p e = cc

console_same : (c : BusContents) (a : ℕ) (w : Width) (p : ℕ × BusContents) → TakesNothing c a w → console_load c a w ≡ Ok p
    → p.1 ≡ c
console_same c a Byte p h e = cc
console_same c a Half p h e = cc
console_same c a Word p h e =
    by_address (a == 0x1000_0000) c a (next_script_byte c.script) _ p h (by_count (a == 0x1000_0004) c p) e

by_place : (refused console within : Bool) (c : BusContents) (v : ℕ) (other : Result (ℕ × BusContents) BusFault)
    (p : ℕ × BusContents) → (other ≡ Ok p → p.1 ≡ c)
    → cond refused (Err bus.Misaligned) (cond console other (cond within (Ok (v, c)) (Err bus.Access))) ≡ Ok p → p.1 ≡ c
by_place true console within c v other p h e = cc
by_place false true within c v other p h e = h e
by_place false false true c v other p h e = cc
by_place false false false c v other p h e = cc

load_same : (c : BusContents) (a : ℕ) (w : Width) (p : ℕ × BusContents) → TakesNothing c a w → load_from c a w ≡ Ok p → p.1 ≡ c
load_same c a w p h e = by_place (rejects c.misaligned a w) (touches_console a (size_of w)) (is_in_one_region c.regions a (size_of w))
    c (value_at c.memory a w) (console_load c a w) p (console_same c a w p h) e

-- what a load leaves, whatever value it gives the register
loaded : (w : Width) (i : Instr) (next : ℕ) (s : State) → TakesNothing s.bus (address s i) w → (p : ℕ × BusContents)
    → load_from s.bus (address s i) w ≡ Ok p → (v : ℕ) → Same s (with_pc (with_register (with_bus s p.1) i.rd v) next)
loaded w i next s h p e v = let u = written (with_bus s p.1) i.rd v in
    (u.0 ∙ load_same s.bus (address s i) w p h e, u.1)

-- ---- stores

store_leaves : (w : Width) (i : Instr) (next : ℕ) (s : State) → is_store_redundant s.bus (address s i) w (rs2_value s i) ≡ true
    → Leaves s (store w s i next)
store_leaves w i next s h = go (store_to s.bus (address s i) w (rs2_value s i)) refl
  where
    go : (r : Result BusContents BusFault) → store_to s.bus (address s i) w (rs2_value s i) ≡ r
        → Leaves s (after_store r s i next)
    go (Ok d) e = (store_again s.bus d (address s i) w (rs2_value s i) h e, refl)
    go (Err f) e = tt

-- ---- instructions

not_taken : (b : Bool) → not b ≡ true → b ≡ false
not_taken true h = cc
not_taken false h = refl

effect_leaves : (o : Op) (i : Instr) (next : ℕ) (s : State) → is_instr_quiet o i s ≡ true
    → Leaves s (effect_of o i next s)
effect_leaves op.Lui i next s h = written s i.rd _
effect_leaves op.Auipc i next s h = written s i.rd _
effect_leaves op.Jal i next s h = gone s _ (with_register s i.rd next) (written s i.rd _)
effect_leaves op.Jalr i next s h = gone s _ (with_register s i.rd next) (written s i.rd _)
effect_leaves op.Beq i next s h = branch _ s i next
effect_leaves op.Bne i next s h = branch _ s i next
effect_leaves op.Blt i next s h = branch _ s i next
effect_leaves op.Bge i next s h = branch _ s i next
effect_leaves op.Bltu i next s h = branch _ s i next
effect_leaves op.Bgeu i next s h = branch _ s i next
effect_leaves op.Lb i next s h = (byte_loaded (Same s) i next s (loaded Byte i next s tt)).0
effect_leaves op.Lh i next s h = (half_loaded (Same s) i next s (loaded Half i next s tt)).0
effect_leaves op.Lw i next s h = word_loaded (Same s) i next s (loaded Word i next s (not_taken _ h))
effect_leaves op.Lbu i next s h = (byte_loaded (Same s) i next s (loaded Byte i next s tt)).1
effect_leaves op.Lhu i next s h = (half_loaded (Same s) i next s (loaded Half i next s tt)).1
effect_leaves op.Sb i next s h = store_leaves Byte i next s h
effect_leaves op.Sh i next s h = store_leaves Half i next s h
effect_leaves op.Sw i next s h = store_leaves Word i next s h
effect_leaves op.Fence i next s h = (refl, refl)
effect_leaves op.FenceI i next s h = cc
effect_leaves op.Ecall i next s h = tt
effect_leaves op.Ebreak i next s h = tt
effect_leaves _ i next s h = written s i.rd _

found_quiet : (s : State) (i : Instr) → is_step_quiet s ≡ true → instr_at s ≡ Some i → is_instr_quiet i.op i s ≡ true
found_quiet s i h e = sym (ap (λ o. is_quiet_if_found o s) e) ∙ h

-- a step that completes
pub step_same : (s t : State) → is_step_quiet s ≡ true → step_of s ≡ Ok t → Same s t
unfolding step_of effect
step_same s t h e = go (fetch s.isa s.bus s.pc) refl e
  where
    leaves : (r : Result State Ending) → Leaves s r → r ≡ Ok t → Same s t
    leaves (Ok u) l same = let is : u ≡ t = cc in (ap (λ v. v.bus) (sym is) ∙ l.0, ap (λ v. v.isa) (sym is) ∙ l.1)
    leaves (Err f) l same = cc

    go : (r : FetchResult) → fetch s.isa s.bus s.pc ≡ r → after_fetch r s ≡ Ok t → Same s t
    go (Ok p) f same = let code = code_is_fetched s p.0 p.1 f in
        leaves (effect p.0 p.1 s) (effect_leaves p.0.op p.0 (next_pc s p.1) s (found_quiet s p.0 h code.1.instruction)) same
    go (Err f) fetched same = cc
