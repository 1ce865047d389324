-- RV32IMC has every row, so what a word or a halfword means in a narrower set it means there too.
use Rattle.std.proofs.Common.{◌≡◌, ℕ, Bool, true, ◌&&◌, Some, refl}
use Rattle.std.proofs.lemmas.Bool.{and_parts, and_from}
use Rattle.rv_isa.specs.declared.instruction.Instr.{Instr}
use Rattle.rv_isa.specs.declared.isa.Isa.{Isa}
use Rattle.rv_isa.specs.declared.isa.Isa.TheVariants as set
use Rattle.rv_isa.specs.Extensions.{Extension, RV32I, Zifencei, RV32M, RV32C, has_extension}
use Rattle.rv_isa.specs.Words.{has_fields, Means32, meaning32}
use Rattle.rv_isa.specs.Halfwords.{lacks_fields, Means16, meaning16}
use Rattle.rv_isa.proofs.WordRows.{meaning32_means}
use Rattle.rv_isa.proofs.HalfwordRows.{meaning16_means}

has_all_assigned_indices : (e : Extension) → has_extension set.Imc e ≡ true
has_all_assigned_indices RV32I = refl
has_all_assigned_indices Zifencei = refl
has_all_assigned_indices RV32M = refl
has_all_assigned_indices RV32C = refl

wider_too : (isa : Isa) (e : Extension) (rest : Bool) → (has_extension isa e && rest) ≡ true → (has_extension set.Imc e && rest) ≡ true
wider_too isa e rest h = and_from (has_extension set.Imc e) rest (has_all_assigned_indices e) (and_parts (has_extension isa e) rest h).1

pub meaning32_wider : (isa : Isa) (w : ℕ) (i : Instr) → meaning32 isa w ≡ Some i → meaning32 set.Imc w ≡ Some i
unfolding Means32
meaning32_wider isa w i e =
    let m = (meaning32_means isa w i).0 e in
    let stands = wider_too isa m.1.extension (has_fields w m.1.fixed) m.4.0 in
    (meaning32_means set.Imc w i).1 (m.0, m.1, m.2, m.3, (stands, m.4.1))

pub meaning16_wider : (isa : Isa) (h : ℕ) (i : Instr) → meaning16 isa h ≡ Some i → meaning16 set.Imc h ≡ Some i
unfolding Means16
meaning16_wider isa h i e =
    let m = (meaning16_means isa h i).0 e in
    let rest : Bool = has_fields h m.1.fixed && (lacks_fields h m.1.excluded && m.1.has_valid_immediate h) in
    (meaning16_means set.Imc h i).1 (m.0, m.1, m.2, m.3, (wider_too isa m.1.extension rest m.4.0, m.4.1))
