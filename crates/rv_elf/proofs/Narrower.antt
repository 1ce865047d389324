-- An image that is read for a narrower set of instructions is read for RV32IMC alike.
use Rattle.std.proofs.Common.{◌≡◌, ◌∙◌, ℕ, false, not, ◌&&◌, ◌||◌, List, [], ◌∷◌, ◌++◌, take, refl, ap, Ok, Result}
use Rattle.std.proofs.Common.{◌%◌, ◌==◌}
use Rattle.std.specs.List.{list_any}
use Rattle.std.proofs.lemmas.Bool.{or_parts}
use Rattle.rv_isa.specs.declared.isa.Isa.{Isa}
use Rattle.rv_isa.specs.declared.isa.Isa.TheVariants.{Imc}
use Rattle.rv_isa.specs.Extensions.{has_extension, RV32C}
use Rattle.rv_elf.specs.declared.error.ImageError.{ImageError}
use Rattle.rv_elf.specs.declared.error.ImageError.TheVariants.{EntryAlign}
use Rattle.rv_elf.specs.declared.image.Image.{Image}
use Rattle.rv_elf.specs.Rows.{ErrorRow, first_error_of}
use Rattle.rv_elf.specs.Image.{e_entry, image_error_rows, unchecked_image, image_of}
use Rattle.rv_elf.proofs.FirstRow.{none_refused}

-- rows of which none applies leave what follows
passes_all : {X : Type 0} (rows : List ErrorRow) (next : Result X ImageError) → list_any (λ r. r.0) rows ≡ false
    → first_error_of rows next ≡ next
passes_all [] next h = refl
passes_all (row ∷ rows) next h =
    let p = or_parts row.0 (list_any (λ r. r.0) rows) h in rw p.0 (passes_all rows next p.1)

-- a last row that doesn't apply, in place of another one
wider : (rows : List ErrorRow) (was now : ErrorRow) → now.0 ≡ false → list_any (λ r. r.0) (rows ++ was ∷ []) ≡ false
    → list_any (λ r. r.0) (rows ++ now ∷ []) ≡ false
wider [] was now passes h = ap (λ b. b || false) passes
wider (row ∷ rows) was now passes h =
    let p = or_parts row.0 (list_any (λ r. r.0) (rows ++ was ∷ [])) h in rw p.0 (wider rows was now passes p.1)

-- with 16-bit instructions nothing is refused that is not refused without them: the last refusal goes
refusals_wider : (isa : Isa) (file : List ℕ) → list_any (λ r. r.0) (image_error_rows isa file) ≡ false
    → list_any (λ r. r.0) (image_error_rows Imc file) ≡ false
refusals_wider isa file h =
    let last : Isa → ErrorRow = λ set. (not (has_extension set RV32C) && not (e_entry file % 4 == 0), EntryAlign) in
    wider (take 13 (image_error_rows Imc file)) (last isa) (last Imc) refl h

pub image_wider : (isa : Isa) (file : List ℕ) (image : Image) → image_of isa file ≡ Ok image
    → image_of Imc file ≡ Ok image
unfolding image_of
image_wider isa file image e =
    let read = none_refused (image_error_rows isa file) (Ok (unchecked_image file)) image e in
    passes_all (image_error_rows Imc file) (Ok (unchecked_image file)) (refusals_wider isa file read.0) ∙ read.1
