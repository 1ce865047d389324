use Rattle.std.proofs.lemmas.Result.{err_from_is_err_and}
use Rattle.rv_elf.proofs.Reading.{header_passed, header_refused, read_is, read_even, read_aligned}
use Rattle.rv_elf.proofs.image.read_image.Goals as goal

pub returns-clause-value : goal.returns-clause-value
returns-clause-value c =
    rw (header_passed c.args.isa c.args.file.now c.in_ok-check_header.ensures.value) c.read_image_after_header.ensures

pub returns-clause-image : goal.returns-clause-image
returns-clause-image c = read_is c.args.isa c.args.file.now c.read_image_after_header.result
    (header_passed c.args.isa c.args.file.now c.in_ok-check_header.ensures.value) c.read_image_after_header.ensures

pub returns-clause-even : goal.returns-clause-even
returns-clause-even c = read_even c.args.isa c.args.file.now c.read_image_after_header.result
    (header_passed c.args.isa c.args.file.now c.in_ok-check_header.ensures.value) c.read_image_after_header.ensures

pub returns-clause-aligned : goal.returns-clause-aligned
returns-clause-aligned c = read_aligned c.args.isa c.args.file.now c.read_image_after_header.result
    (header_passed c.args.isa c.args.file.now c.in_ok-check_header.ensures.value) c.read_image_after_header.ensures

pub returns-in_err-check_header-clause-value : goal.returns-in_err-check_header-clause-value
returns-in_err-check_header-clause-value c =
    let error = err_from_is_err_and c.from_residual.result c.from_residual.ensures.1 in
    rw (error.1, error.2) (λ _. header_refused c.args.isa c.args.file.now _ c.in_err-check_header.ensures.value)
