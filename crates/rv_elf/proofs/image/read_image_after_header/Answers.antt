use Rattle.std.proofs.Common.{◌≡◌, ◌∙◌, ap, ℕ, List}
use Rattle.std.proofs.lemmas.Result.{err_from_is_err_and}
use Rattle.rv_elf.specs.declared.image.Image.{Image}
use Rattle.rv_elf.specs.declared.image.Segment.{Segment}
use Rattle.rv_elf.specs.Image.{segments, loaded_segments}
use Rattle.rv_elf.proofs.Reading.{entries_refused, image_refused, image_passed}
use Rattle.rv_elf.proofs.image.read_image_after_header.Goals as goal

same : (entry other : ℕ) (kept those : List Segment) → entry ≡ other → kept ≡ those
    → ◌≡◌ {A = Image} (record { entry = entry; segments = kept }) (record { entry = other; segments = those })
same entry other kept those e f = λ i. record { entry = e i; segments = f i }

pub returns-in_err-check_program_headers : goal.returns-in_err-check_program_headers
returns-in_err-check_program_headers c =
    let error =
    err_from_is_err_and c.from_residual-in_err-check_program_headers.result
    c.from_residual-in_err-check_program_headers.ensures.1 in
    rw (error.1, error.2) (λ _. entries_refused c.args.isa c.args.file.now _ c.in_err-check_program_headers.ensures)

pub check_segments_and_entry-requires-clause-segments : goal.check_segments_and_entry-requires-clause-segments
unfolding segments
check_segments_and_entry-requires-clause-segments c =
    c.as_slice-3.ensures.value ∙ c.in_ok-kept.ensures ∙ ap loaded_segments (c.as_slice-2.ensures.value ∙ c.in_ok-found.ensures)

pub returns-in_err-check_segments_and_entry : goal.returns-in_err-check_segments_and_entry
returns-in_err-check_segments_and_entry c =
    let error =
    err_from_is_err_and c.from_residual-in_err-check_segments_and_entry.result c.from_residual-in_err-check_segments_and_entry.ensures.1 in
    rw (error.1, error.2) (λ _. image_refused c.args.isa c.args.file.now _ c.in_ok-check_program_headers.ensures
    c.in_err-check_segments_and_entry.ensures)

pub returns : goal.returns
unfolding segments
returns c =
    let there = same _ _ _ _ c.word_field.ensures
    (c.new.ensures ∙ c.in_ok-kept.ensures ∙ ap loaded_segments (c.as_slice-2.ensures.value ∙ c.in_ok-found.ensures)) in
    image_passed c.args.isa c.args.file.now _ there c.in_ok-check_program_headers.ensures c.in_ok-check_segments_and_entry.ensures
