-- A set with M has each word of RV32IMC, and a set with C each halfword.
use Rattle.std.proofs.Common.{◌≡◌, ℕ, Bool, true, false, ◌&&◌, Some, refl}
use Rattle.std.specs.List.{list_all}
use Rattle.std.proofs.lemmas.Bool.{and_from, and_parts, false≢true}
use Rattle.rv_isa.specs.declared.instruction.Instr.{Instr}
use Rattle.rv_isa.specs.declared.isa.Isa.{Isa}
use Rattle.rv_isa.specs.declared.isa.Isa.TheVariants as set
use Rattle.rv_isa.specs.Extensions.{Extension, RV32I, Zifencei, RV32M, RV32C, has_extension}
use Rattle.rv_isa.specs.Words.{Means32, has_fields, meaning32, rows}
use Rattle.rv_isa.specs.Halfwords.{Means16, lacks_fields, meaning16, rows16}
use Rattle.rv_isa.proofs.Public.{all_at, meaning16_means, meaning32_means}

-- extensions of words, and of halfwords
of_words : Extension → Bool
of_words RV32C = false
of_words _ = true

of_halfwords : Extension → Bool
of_halfwords RV32C = true
of_halfwords _ = false

words_only : list_all (λ r. of_words r.extension) rows ≡ true
unfolding rows of_words
words_only = refl

halfwords_only : list_all (λ r. of_halfwords r.extension) rows16 ≡ true
unfolding rows16 of_halfwords
halfwords_only = refl

has_words : (isa : Isa) (e : Extension) → has_extension isa RV32M ≡ true → of_words e ≡ true → has_extension isa e ≡ true
unfolding of_words
has_words isa RV32I m o = refl
has_words isa Zifencei m o = refl
has_words isa RV32M m o = m
has_words isa RV32C m o = absurd (false≢true o)

has_halfwords : (isa : Isa) (e : Extension) → has_extension isa RV32C ≡ true → of_halfwords e ≡ true → has_extension isa e ≡ true
unfolding of_halfwords
has_halfwords isa RV32I c o = refl
has_halfwords isa Zifencei c o = refl
has_halfwords isa RV32M c o = absurd (false≢true o)
has_halfwords isa RV32C c o = c

pub words_of_m : (isa : Isa) (w : ℕ) (i : Instr) → has_extension isa RV32M ≡ true → meaning32 set.Imc w ≡ Some i
    → meaning32 isa w ≡ Some i
unfolding Means32
words_of_m isa w i h e =
    let m = (meaning32_means set.Imc w i).0 e in
    let held = has_words isa m.1.extension h (all_at (λ r. of_words r.extension) rows m.0 m.1 words_only m.2 m.3) in
    let rest : Bool = has_fields w m.1.fixed in
    let stands = and_from (has_extension isa m.1.extension) rest held (and_parts (has_extension set.Imc m.1.extension) rest m.4.0).1 in
    (meaning32_means isa w i).1 (m.0, m.1, m.2, m.3, (stands, m.4.1))

pub halfwords_of_c : (isa : Isa) (h : ℕ) (i : Instr) → has_extension isa RV32C ≡ true → meaning16 set.Imc h ≡ Some i
    → meaning16 isa h ≡ Some i
unfolding Means16
halfwords_of_c isa h i c e =
    let m = (meaning16_means set.Imc h i).0 e in
    let held = has_halfwords isa m.1.extension c
    (all_at (λ r. of_halfwords r.extension) rows16 m.0 m.1 halfwords_only m.2 m.3) in
    let rest : Bool = has_fields h m.1.fixed && (lacks_fields h m.1.excluded && m.1.has_valid_immediate h) in
    let stands = and_from (has_extension isa m.1.extension) rest held (and_parts (has_extension set.Imc m.1.extension) rest m.4.0).1 in
    (meaning16_means isa h i).1 (m.0, m.1, m.2, m.3, (stands, m.4.1))
