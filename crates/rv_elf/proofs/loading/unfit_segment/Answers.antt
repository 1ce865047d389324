use Rattle.std.proofs.Common.{not, rules, tests}
use Rattle.std.proofs.lemmas.Iterator.{YieldsList-from_slice}
use Rattle.std.proofs.lemmas.Iterator.Search.{find_from_yields_List}
use Rattle.rv_elf.specs.Loading.{segment_fits}
use Rattle.rv_elf.proofs.loading.unfit_segment.Goals as goal

pub returns : goal.returns
returns c = find_from_yields_List
    (λ segment. not (segment_fits c.args.map.now c.args.load_at segment)) _ _ _ c.find.ensures.ran
    (YieldsList-from_slice c.args.segments.now c.iter.ensures.rest) (λ x b q k. search (rules, tests))
