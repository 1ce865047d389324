-- What a store is said to have written stands in memory behind it.
use Rattle.std.proofs.Common.{◌≡◌, ◌≢◌, ◌∙◌, ◌+◌, ◌*◌, ◌/◌, ◌%◌, ◌^◌, ◌==◌, ℕ, Bool, true, false, cond, sym, ap, refl}
use Rattle.std.proofs.Common.{arith, eqb, unwrap_or, Some, Result, Ok, Err}
use Rattle.std.proofs.lemmas.Bool.{eq-eqb, ne_eqb}
use Rattle.std.specs.Cmp.{nat_cmp_total, unsigned_tied}
use Rattle.std.specs.Ordering.{nat_cmp}
use Rattle.std.specs.FinMap as fin
use Rattle.rv_machine.specs.declared_instruction.Instr.{Instr}
use Rattle.rv_machine.specs.declared_instruction.Op.{Op}
use Rattle.rv_machine.specs.declared_instruction.Op.TheVariants as op
use Rattle.rv_machine.specs.Bus.{BusContents, byte_at, console_store, put, rejects, size_of, store_to, touches_console}
use Rattle.rv_machine.specs.Bus.{value_at}
use Rattle.rv_machine.specs.Regions.{is_in_writable_region}
use Rattle.rv_machine.specs.declared_access.Width.{Width}
use Rattle.rv_machine.specs.declared_access.Width.TheVariants.{Byte, Half, Word}
use Rattle.rv_machine.specs.declared_faults.BusFault.{BusFault}
use Rattle.rv_machine.specs.declared_faults.BusFault.TheVariants as bus
use Rattle.rv_machine.specs.Effect.{address, after_store, effect, effect_of, next_pc, rs2_value, store}
use Rattle.rv_machine.specs.Fetch.{FetchResult, fetch}
use Rattle.rv_machine.specs.Run.{after_fetch, step_of}
use Rattle.rv_machine.specs.State.{State, with_pc, with_bus}
use Rattle.rv_trace.specs.declared.write_targets.Access.{Access}
use Rattle.rv_trace.specs.declared.write_targets.Access.TheVariants as access
use Rattle.rv_trace.specs.declared.write_targets.WriteTarget.TheVariants as target
use Rattle.rv_trace.specs.declared.step.WriteEffect.TheVariants as write
use Rattle.rv_trace.specs.Steps.{access_of, instruction_write_target, write_target, traced_step, completed_write}
use Rattle.rv_trace.proofs.Fetched.{code_is_fetched}

-- ---- memory

module _ (m : fin.FinMap nat_cmp ℕ) (a b : ℕ) where
  put_at : (q : ℕ) → fin.get (fin.insert m a b) q ≡ cond (eqb q a) (Some b) (fin.get m q)
  put_at q = fin.get-insert nat_cmp_total m a b q ∙ ap (λ x. cond x (Some b) (fin.get m q)) (unsigned_tied q a)

  byte_same : byte_at (fin.insert m a b) a ≡ b
  byte_same = ap (λ o. unwrap_or o 0) (put_at a ∙ ap (λ x. cond x (Some b) (fin.get m a)) (eq-eqb a a refl))

  byte_other : (q : ℕ) → q ≢ a → byte_at (fin.insert m a b) q ≡ byte_at m q
  byte_other q ne = ap (λ o. unwrap_or o 0) (put_at q ∙ ap (λ x. cond x (Some b) (fin.get m q)) (ne_eqb q a ne))

half_parts : (v : ℕ) → v % 0x100 + 0x100 * (v / 0x100 % 0x100) ≡ v % 0x1_0000
half_parts v = omega arith

word_parts : (v : ℕ) → v % 0x100 + 0x100 * (v / 0x100 % 0x100) + 0x1_0000 * (v / 0x1_0000 % 0x100)
    + 0x100_0000 * (v / 0x100_0000 % 0x100) ≡ v % 0x1_0000_0000
word_parts v = omega arith

-- the bytes of a stored value, each at its address
value_put : (c : BusContents) (a : ℕ) (w : Width) (v : ℕ) → value_at (put c a w v).memory a w ≡ v % 2 ^ (8 * size_of w)
value_put c a Byte v = byte_same c.memory a (v % 0x100)
value_put c a Half v =
    let b0 = v % 0x100 in let b1 = v / 0x100 % 0x100 in
    let m0 = fin.insert c.memory a b0 in
    let first : byte_at (fin.insert m0 (a + 1) b1) a ≡ b0 =
    byte_other m0 (a + 1) b1 a (omega arith) ∙ byte_same c.memory a b0 in
    let second : byte_at (fin.insert m0 (a + 1) b1) (a + 1) ≡ b1 = byte_same m0 (a + 1) b1 in
    (λ i. first i + 0x100 * second i) ∙ half_parts v
value_put c a Word v =
    let b0 = v % 0x100 in let b1 = v / 0x100 % 0x100 in
    let b2 = v / 0x1_0000 % 0x100 in let b3 = v / 0x100_0000 % 0x100 in
    let m0 = fin.insert c.memory a b0 in let m1 = fin.insert m0 (a + 1) b1 in
    let m2 = fin.insert m1 (a + 2) b2 in let m3 = fin.insert m2 (a + 3) b3 in
    let first : byte_at m3 a ≡ b0 = byte_other m2 (a + 3) b3 a (omega arith)
    ∙ byte_other m1 (a + 2) b2 a (omega arith) ∙ byte_other m0 (a + 1) b1 a (omega arith)
    ∙ byte_same c.memory a b0 in
    let second : byte_at m3 (a + 1) ≡ b1 = byte_other m2 (a + 3) b3 (a + 1) (omega arith)
    ∙ byte_other m1 (a + 2) b2 (a + 1) (omega arith) ∙ byte_same m0 (a + 1) b1 in
    let third : byte_at m3 (a + 2) ≡ b2 = byte_other m2 (a + 3) b3 (a + 2) (omega arith)
    ∙ byte_same m1 (a + 2) b2 in
    let fourth : byte_at m3 (a + 3) ≡ b3 = byte_same m2 (a + 3) b3 in
    (λ i. first i + 0x100 * second i + 0x1_0000 * third i + 0x100_0000 * fourth i) ∙ word_parts v

-- ---- a store that completes

by_tests : (refused console within : Bool) (other : Result BusContents BusFault) (stored d : BusContents) → console ≡ false
    → cond refused (Err bus.Misaligned) (cond console other (cond within (Ok stored) (Err bus.Access))) ≡ Ok d
    → d ≡ stored
by_tests true console within other stored d h e = cc
by_tests false true within other stored d h e = cc
by_tests false false true other stored d h e = cc
by_tests false false false other stored d h e = cc

store_leaves : (c d : BusContents) (a : ℕ) (w : Width) (v : ℕ) → touches_console a (size_of w) ≡ false
    → store_to c a w v ≡ Ok d → d ≡ put c a w v
store_leaves c d a w v outside e = by_tests (rejects c.misaligned a w) (touches_console a (size_of w))
    (is_in_writable_region c.regions a (size_of w)) (console_store c a w v) (put c a w v) d outside e

-- an instruction that aims at memory is a store
stores_as : (o : Op) (w : Width) (i : Instr) (next : ℕ) (s : State) → access_of o ≡ access.Store w
    → effect_of o i next s ≡ store w s i next
stores_as op.Sb w i next s e = let same : Byte ≡ w = cc in ap (λ x. store x s i next) same
stores_as op.Sh w i next s e = let same : Half ≡ w = cc in ap (λ x. store x s i next) same
stores_as op.Sw w i next s e = let same : Word ≡ w = cc in ap (λ x. store x s i next) same
stores_as _ w i next s e = cc

nothing_stored : (b : Bool) (n a : ℕ) (w : Width) (v : ℕ) (t : State) (P : Type 0)
    → completed_write (cond b target.Nothing (target.Register n)) t ≡ write.Stored a w v → P
nothing_stored true n a w v t P e = cc
nothing_stored false n a w v t P e = cc

module _ (s t : State) (i : Instr) (next a v : ℕ) (w : Width) where
  -- what a store leaves at its address
  left_there : (r : Result BusContents BusFault) → store_to s.bus (address s i) w (rs2_value s i) ≡ r
      → after_store r s i next ≡ Ok t → touches_console (address s i) (size_of w) ≡ false
      → value_at t.bus.memory (address s i) w ≡ rs2_value s i % 2 ^ (8 * size_of w)
  left_there (Ok d) is e outside =
      let same : with_pc (with_bus s d) next ≡ t = cc in
      let bus : t.bus ≡ put s.bus (address s i) w (rs2_value s i) =
      sym (ap (λ u. u.bus) same) ∙ store_leaves s.bus d (address s i) w (rs2_value s i) outside is in
      ap (λ c. value_at c.memory (address s i) w) bus ∙ value_put s.bus (address s i) w (rs2_value s i)
  left_there (Err fault) is e outside = cc

  by_access : (x : Access) → access_of i.op ≡ x → completed_write (instruction_write_target x i s) t ≡ write.Stored a w v
      → effect_of i.op i next s ≡ Ok t → touches_console a (size_of w) ≡ false → value_at t.bus.memory a w ≡ v
  by_access access.Load is e done outside = cc
  by_access access.Neither is e done outside =
      nothing_stored (i.rd == 0) i.rd a w v t (value_at t.bus.memory a w ≡ v) e
  by_access (access.Store u) is e done outside =
      let at : address s i ≡ a = cc in
      let wide : u ≡ w = cc in
      let value : rs2_value s i % 2 ^ (8 * size_of u) ≡ v = cc in
      let stores : store w s i next ≡ Ok t =
      sym (stores_as i.op w i next s (is ∙ ap (λ x. access.Store x) wide)) ∙ done in
      let there = left_there (store_to s.bus (address s i) w (rs2_value s i)) refl stores
      (ap (λ b. touches_console b (size_of w)) at ∙ outside) in
      ap (λ b. value_at t.bus.memory b w) (sym at) ∙ there
      ∙ sym (ap (λ x. rs2_value s i % 2 ^ (8 * size_of x)) wide) ∙ value

module _ (s t : State) (a v : ℕ) (w : Width) (e : (traced_step s t).write ≡ write.Stored a w v)
    (outside : touches_console a (size_of w) ≡ false) where
  by_fetch : (f : FetchResult) → fetch s.isa s.bus s.pc ≡ f → after_fetch f s ≡ Ok t → value_at t.bus.memory a w ≡ v
  unfolding effect
  by_fetch (Ok p) is done =
      let same = (code_is_fetched s p.0 p.1 is).1.instruction in
      by_access s t p.0 (next_pc s p.1) a v w (access_of p.0.op) refl
      (sym (ap (λ o. completed_write (write_target o s) t) same) ∙ e) done outside
  by_fetch (Err f) is done = cc

  stands : step_of s ≡ Ok t → value_at t.bus.memory a w ≡ v
  unfolding step_of
  stands done = by_fetch (fetch s.isa s.bus s.pc) refl done

pub stored_stands : (s t : State) (a v : ℕ) (w : Width) → step_of s ≡ Ok t → (traced_step s t).write ≡ write.Stored a w v
    → touches_console a (size_of w) ≡ false → value_at t.bus.memory a w ≡ v
stored_stands s t a v w done e outside = stands s t a v w e outside done
