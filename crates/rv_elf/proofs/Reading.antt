-- How the parts of reading make the image, and where its segments stand in the file.
use Rattle.std.proofs.Common.{◌≡◌, ◌∙◌, ◌≤◌, ◌<◌, ◌+◌, ℕ, map, Bool, true, false, not, ◌&&◌, ◌||◌, cond, ltb, List, []}
use Rattle.std.proofs.Common.{◌∷◌, refl, sym, ap, length, Ok, Err, ◌%◌, ◌==◌, eqb-true, MatchResult, IfOk, Result}
use Rattle.std.specs.List.{list_any, list_all, filter}
use Rattle.std.proofs.lemmas.Bool.{or_parts, and_parts, and_from, not_from_false, not-true, not-false, ltb-false}
use Rattle.std.proofs.lemmas.Bool.{lt-ltb}
use Rattle.rv_isa.specs.declared.isa.Isa.{Isa}
use Rattle.rv_isa.specs.Extensions.{has_extension, RV32C}
use Rattle.rv_elf.specs.declared.error.ImageError.{ImageError}
use Rattle.rv_elf.specs.declared.error.ImageError.TheVariants.{OutOfMemory}
use Rattle.rv_elf.specs.declared.image.Image.{Image}
use Rattle.rv_elf.specs.declared.image.Segment.{Segment}
use Rattle.rv_elf.specs.declared.program_headers.ProgramHeader.{ProgramHeader}
use Rattle.rv_elf.specs.Rows.{first_error_of, accepted}
use Rattle.rv_elf.specs.Image.{program_header_table, segments, loaded_segments, is_load, is_loaded_header, is_segment_past_file, is_dynamic, has_bad_sizes}
use Rattle.rv_elf.specs.Image.{e_entry, unchecked_image, image_of, IsImageOf}
use Rattle.rv_elf.specs.ImageChecks.{header_rows, program_header_rows, image_rows, header_check, program_header_check, segments_and_entry_check}
use Rattle.rv_elf.specs.ImageChecks.{image_after_header}
use Rattle.rv_elf.proofs.FirstRow.{none_refuses, refusal_stays, none_refused}

-- ---- the parts of reading

pub header_passed : (isa : Isa) (file : List ℕ) → accepted ≡ header_check file → image_of isa file ≡ image_after_header isa file
unfolding image_of image_after_header header_check
header_passed isa file e = none_refuses (header_rows file) (image_after_header isa file) (sym e)

pub header_refused : (isa : Isa) (file : List ℕ) (w : ImageError) → Err w ≡ header_check file
    → image_of isa file ≡ Err w
unfolding image_of image_after_header header_check
header_refused isa file w e = refusal_stays (header_rows file) (image_after_header isa file) w (sym e)

pub entries_refused : (isa : Isa) (file : List ℕ) (w : ImageError) → Err w ≡ program_header_check file
    → image_after_header isa file ≡ Err w
unfolding image_after_header program_header_check
entries_refused isa file w e = refusal_stays (program_header_rows file) _ w (sym e)

entries_passed : (isa : Isa) (file : List ℕ) → accepted ≡ program_header_check file
    → image_after_header isa file ≡ first_error_of (image_rows isa file) (Ok (unchecked_image file))
unfolding image_after_header program_header_check
entries_passed isa file e = none_refuses (program_header_rows file) _ (sym e)

pub image_refused : (isa : Isa) (file : List ℕ) (w : ImageError) → accepted ≡ program_header_check file
    → Err w ≡ segments_and_entry_check isa file → image_after_header isa file ≡ Err w
unfolding segments_and_entry_check
image_refused isa file w p e = entries_passed isa file p ∙ refusal_stays (image_rows isa file) _ w (sym e)

pub image_passed : (isa : Isa) (file : List ℕ) (image : Image) → image ≡ unchecked_image file
    → accepted ≡ program_header_check file → accepted ≡ segments_and_entry_check isa file → image_after_header isa file ≡ Ok image
unfolding segments_and_entry_check
image_passed isa file image there p e =
    entries_passed isa file p ∙ none_refuses (image_rows isa file) _ (sym e) ∙ ap (λ i. Ok i) (sym there)

-- where the bytes are an image, no refusal applies, and it is what is there
module _ (isa : Isa) (file : List ℕ) (image : Image) (e : image_of isa file ≡ Ok image) where
  after_header : image_after_header isa file ≡ Ok image
  unfolding image_of image_after_header
  after_header = (none_refused (header_rows file) (image_after_header isa file) image e).1

  entries_good : (list_any (λ r. r.0) (program_header_rows file) ≡ false)
      × (first_error_of (image_rows isa file) (Ok (unchecked_image file)) ≡ Ok image)
  unfolding image_after_header
  entries_good = none_refused (program_header_rows file) (first_error_of (image_rows isa file) (Ok (unchecked_image file))) image
      after_header

  pub entered : list_any (λ r. r.0) (image_rows isa file) ≡ false
  entered = (none_refused (image_rows isa file) (Ok (unchecked_image file)) image entries_good.1).0

  pub there_is : unchecked_image file ≡ image
  there_is = let last = (none_refused (image_rows isa file) (Ok (unchecked_image file)) image entries_good.1).1 in cc

-- ---- where the bytes of a segment stand

-- the segment's bytes, if it has some, are within a file of n bytes
abbrev pub in_file : ℕ → Segment → Bool
in_file n s = not (ltb 0 s.filesz && ltb n (s.offset + s.filesz))

kept_in_file : (n : ℕ) (found : List ProgramHeader) → list_any (is_segment_past_file n) found ≡ false
    → list_all (in_file n) (loaded_segments found) ≡ true
kept_in_file n [] e = refl
kept_in_file n (x ∷ xs) e =
    let p = or_parts (is_segment_past_file n x) _ e in
    let rest = kept_in_file n xs p.1 in
    elim (is_loaded_header x) as (λ b. is_loaded_header x ≡ b
    → list_all (in_file n) (map (λ y. y.segment) (cond b (x ∷ filter is_loaded_header xs) (filter is_loaded_header xs))) ≡ true) [
      | true ↦ λ k. and_from (in_file n x.segment) _
          (not_from_false _
          (sym (ap (λ b. b && (ltb 0 x.segment.filesz && ltb n (x.segment.offset + x.segment.filesz)))
          (and_parts (is_load x) _ k).0) ∙ p.0)) rest
      | false ↦ λ k. rest
    ] refl

-- so they are where the image is one of n bytes
pub segments_in_file : (isa : Isa) (file : List ℕ) (image : Image) → image_of isa file ≡ Ok image
    → list_all (in_file (length file)) image.segments ≡ true
unfolding segments
segments_in_file isa file image e =
    let n = length file in
    let found = program_header_table file in
    let dynamic = or_parts (list_any is_dynamic found)
    (list_any has_bad_sizes found || (list_any (is_segment_past_file n) found || false)) (entries_good isa file image e).0 in
    let sizes = or_parts (list_any has_bad_sizes found) (list_any (is_segment_past_file n) found || false) dynamic.1 in
    let past = or_parts (list_any (is_segment_past_file n) found) false sizes.1 in
    ap (λ j. list_all (in_file n) j.segments) (sym (there_is isa file image e)) ∙ kept_in_file n found past.0

-- what that means of one of them
pub in_file_bounds : (n : ℕ) (s : Segment) → in_file n s ≡ true → 0 < s.filesz → s.offset + s.filesz ≤ n
in_file_bounds n s h l =
    let f = not-true (ltb 0 s.filesz && ltb n (s.offset + s.filesz)) h in
    ltb-false n (s.offset + s.filesz) (sym (ap (λ b. b && ltb n (s.offset + s.filesz)) (lt-ltb 0 s.filesz l)) ∙ f)

-- an instruction may stand at the entry of an image
pub entry_even : (isa : Isa) (file : List ℕ) (image : Image) → image_of isa file ≡ Ok image → image.entry % 2 ≡ 0
entry_even isa file image e =
    let rows = or_parts (length (segments file) == 0) _ (entered isa file image e) in
    ap (λ i. i.entry % 2) (sym (there_is isa file image e))
    ∙ eqb-true _ _ (not-false _ (or_parts (not (e_entry file % 2 == 0)) _ rows.1).0)

pub entry_aligned : (isa : Isa) (file : List ℕ) (image : Image) → image_of isa file ≡ Ok image → has_extension isa RV32C ≡ false
    → image.entry % 4 ≡ 0
entry_aligned isa file image e c =
    let rows = or_parts (length (segments file) == 0) _ (entered isa file image e) in
    let odd = or_parts (not (e_entry file % 2 == 0)) _ rows.1 in
    let row = (or_parts (not (has_extension isa RV32C) && not (e_entry file % 4 == 0)) false odd.1).0 in
    ap (λ i. i.entry % 4) (sym (there_is isa file image e))
    ∙ eqb-true _ _ (not-false _ (sym (ap (λ b. not b && not (e_entry file % 4 == 0)) c) ∙ row))

-- what reading answers, once the header is accepted
module _ (isa : Isa) (file : List ℕ) where
  -- an answer of the rest of reading
  abbrev pub IsRead : Result Image ImageError → Type 0
  IsRead r = MatchResult r (λ image. image_after_header isa file ≡ Ok image)
      (λ e. (e ≡ OutOfMemory → ⊥) → image_after_header isa file ≡ Err e)

  pub read_is : (r : Result Image ImageError) → image_of isa file ≡ image_after_header isa file → IsRead r
      → IfOk r (IsImageOf file)
  read_is (Ok image) e is = record { isa = isa; is = e ∙ is }
  read_is (Err why) e is = tt

  pub read_even : (r : Result Image ImageError) → image_of isa file ≡ image_after_header isa file → IsRead r
      → IfOk r (λ image. image.entry % 2 ≡ 0)
  read_even (Ok image) e is = entry_even isa file image (e ∙ is)
  read_even (Err why) e is = tt

  pub read_aligned : (r : Result Image ImageError) → image_of isa file ≡ image_after_header isa file → IsRead r
      → IfOk r (λ image. has_extension isa RV32C ≡ false → image.entry % 4 ≡ 0)
  read_aligned (Ok image) e is = entry_aligned isa file image (e ∙ is)
  read_aligned (Err why) e is = tt
