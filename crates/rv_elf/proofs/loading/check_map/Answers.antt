use Rattle.std.proofs.Common.{◌∙◌, ap, sym}
use Rattle.rv_elf.specs.Loading.{any_segments_overlap}
use Rattle.rv_elf.proofs.Sharing.{at_most_one}
use Rattle.rv_elf.proofs.loading.check_map.Goals as goal

pub returns-clause-no_address_twice : goal.returns-clause-no_address_twice
returns-clause-no_address_twice c = λ a. at_most_one c.args.load_at a c.args.image.now.segments
    (ap (any_segments_overlap c.args.load_at) (sym c.as_slice-segments.ensures) ∙ sym c.any_segments_overlap.ensures ∙ c.if-any_segments_overlap.false)
