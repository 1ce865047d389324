-- The code at a state is that of what a fetch gives there.
use Rattle.std.proofs.Common.{◌≡◌, ◌∙◌, ◌+◌, ◌*◌, ◌==◌, ℕ, Bool, true, false, cond, ap, refl}
use Rattle.std.proofs.Common.{Option, Some, None, Result, Ok, Err, option_map}
use Rattle.std.specs.Prelude.{option_and_then}
use Rattle.std.specs.Result.{result_ok}
use Rattle.rv_machine.specs.Bits.{field}
use Rattle.rv_machine.specs.declared_instruction.Instr.{Instr}
use Rattle.rv_machine.specs.Halfwords.{meaning16}
use Rattle.rv_machine.specs.IsaWords.{meaning32}
use Rattle.rv_machine.proofs.Public.{meaning16_wider, meaning32_wider}
use Rattle.rv_machine.specs.Bus.{fetch_half_from}
use Rattle.rv_machine.specs.declared_faults.FetchFault.{FetchFault}
use Rattle.rv_machine.specs.Fetch.{fetch, decoded_or_illegal, second_half_address, after_half_fetch}
use Rattle.rv_machine.specs.State.{State}
use Rattle.rv_trace.specs.declared.code.Code.{Code}
use Rattle.rv_trace.specs.declared.code.Code.TheVariants.{Half, Word}
use Rattle.rv_trace.specs.Code.{code_at, code_from, fetched_half, instr_of}
use Rattle.rv_trace.specs.ShownSteps.{IsCodeOf}

-- what is fetched is no fault
given_is : (o : Option Instr) (n bits : ℕ) (p : Instr × ℕ) → decoded_or_illegal o n bits ≡ Ok p → (o ≡ Some p.0) × (n ≡ p.1)
given_is (Some i) n bits p e = (cc, cc)
given_is None n bits p e = cc

module _ (s : State) (p : Instr × ℕ) where
  Found : Type 0
  Found = (code : Code) × IsCodeOf s p.0 p.1 code

  -- where a first halfword is fetched, what stands there is what it begins
  begun : (low : ℕ) → fetch_half_from s.bus s.pc ≡ Ok low → code_at s.bus s.pc ≡ code_from s.bus s.pc low
  unfolding code_at
  begun low l = ap (λ r. option_and_then (code_from s.bus s.pc) (result_ok r)) l

  word_found : (low high : ℕ) → fetch_half_from s.bus s.pc ≡ Ok low → (field low 1 0 == 3) ≡ true
      → fetch_half_from s.bus (second_half_address s.pc) ≡ Ok high
      → decoded_or_illegal (meaning32 s.isa (low + 0x1_0000 * high)) 4 (low + 0x1_0000 * high) ≡ Ok p → Found
  unfolding Found
  word_found low high l long h e =
      let word = low + 0x1_0000 * high in
      let g = given_is (meaning32 s.isa word) 4 word p e in
      let there : code_at s.bus s.pc ≡ Some (Word word) =
      begun low l
      ∙ ap (λ b. cond b (option_map (λ above. Word (low + 0x1_0000 * above)) (fetched_half s.bus (second_half_address s.pc)))
      (Some (Half low))) long
      ∙ ap (λ r. option_map (λ above. Word (low + 0x1_0000 * above)) (result_ok r)) h in (
        Word word,
        record {
          encoding = there;
          instruction = ap (option_and_then instr_of) there ∙ meaning32_wider s.isa word p.0 g.0;
          long = g.1;
        },
      )

  half_found : (low : ℕ) → fetch_half_from s.bus s.pc ≡ Ok low → (field low 1 0 == 3) ≡ false
      → decoded_or_illegal (meaning16 s.isa low) 2 low ≡ Ok p → Found
  unfolding Found
  half_found low l short e =
      let g = given_is (meaning16 s.isa low) 2 low p e in
      let there : code_at s.bus s.pc ≡ Some (Half low) =
      begun low l
      ∙ ap (λ b. cond b (option_map (λ above. Word (low + 0x1_0000 * above)) (fetched_half s.bus (second_half_address s.pc)))
      (Some (Half low))) short in (
        Half low,
        record {
          encoding = there;
          instruction = ap (option_and_then instr_of) there ∙ meaning16_wider s.isa low p.0 g.0;
          long = g.1;
        },
      )

  from_second : (low : ℕ) → fetch_half_from s.bus s.pc ≡ Ok low → (field low 1 0 == 3) ≡ true
      → (r : Result ℕ FetchFault) → fetch_half_from s.bus (second_half_address s.pc) ≡ r
      → after_half_fetch r (second_half_address s.pc) (λ high. decoded_or_illegal (meaning32 s.isa (low + 0x1_0000 * high)) 4
      (low + 0x1_0000 * high)) ≡ Ok p → Found
  from_second low l long (Ok high) h e = word_found low high l long h e
  from_second low l long (Err fault) h e = cc

  from_first : (low : ℕ) → fetch_half_from s.bus s.pc ≡ Ok low → (b : Bool) → (field low 1 0 == 3) ≡ b
      → cond b (after_half_fetch (fetch_half_from s.bus (second_half_address s.pc)) (second_half_address s.pc)
      (λ high. decoded_or_illegal (meaning32 s.isa (low + 0x1_0000 * high)) 4 (low + 0x1_0000 * high)))
      (decoded_or_illegal (meaning16 s.isa low) 2 low) ≡ Ok p → Found
  from_first low l true long e =
      from_second low l long (fetch_half_from s.bus (second_half_address s.pc)) refl e
  from_first low l false short e = half_found low l short e

  from_fetch : (r : Result ℕ FetchFault) → fetch_half_from s.bus s.pc ≡ r
      → after_half_fetch r s.pc (λ low. cond (field low 1 0 == 3)
      (after_half_fetch (fetch_half_from s.bus (second_half_address s.pc)) (second_half_address s.pc)
      (λ high. decoded_or_illegal (meaning32 s.isa (low + 0x1_0000 * high)) 4 (low + 0x1_0000 * high)))
      (decoded_or_illegal (meaning16 s.isa low) 2 low)) ≡ Ok p → Found
  from_fetch (Ok low) l e = from_first low l (field low 1 0 == 3) refl e
  from_fetch (Err fault) l e = cc

  fetched_found : fetch s.isa s.bus s.pc ≡ Ok p → Found
  unfolding fetch
  fetched_found e = from_fetch (fetch_half_from s.bus s.pc) refl e

pub code_is_fetched : (s : State) (i : Instr) (size : ℕ) → fetch s.isa s.bus s.pc ≡ Ok (i, size)
    → (code : Code) × IsCodeOf s i size code
unfolding Found
code_is_fetched s i size e = fetched_found s (i, size) e
