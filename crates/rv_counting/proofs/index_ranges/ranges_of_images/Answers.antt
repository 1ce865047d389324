-- One piece more.
use Rattle.std.proofs.Common.{◌≡◌, List, length, sym, subst, arith}
use Rattle.rv_counting.specs.declared.index_ranges.IndexRange.{IndexRange}
use Rattle.rv_counting.specs.BatchRanges.{AreIndexRangesTo}
use Rattle.rv_counting.proofs.ImagePieces.{no_pieces, one_piece_more}
use Rattle.rv_counting.proofs.index_ranges.ranges_of_images.Goals as goal

pub loop-from-init : goal.loop-from-init
loop-from-init c =
    let plan = c.args.plan.now in
    let indices = c.args.indices.now in record {
      within = omega arith;
      are = subst (λ (ps : List IndexRange). AreIndexRangesTo plan indices 0 ps) (sym c.new-ranges.ensures.items) (no_pieces plan indices);
    }

pub loop-from-preserved : goal.loop-from-preserved
loop-from-preserved c =
    let plan = c.args.plan.now in
    let indices = c.args.indices.now in
    let from = c.loop-from.from in
    let to = c.range_end-to.result in
    let next = c.range_end-to.ensures in record {
      within = next.within;
      are = subst (λ (ps : List IndexRange). AreIndexRangesTo plan indices to ps) (sym c.in_ok-push.ensures.items)
          (one_piece_more plan indices from c.loop-from.ranges.items (record { begin = from; end = to }) c.loop-from.invariant.are next);
    }

pub returns : goal.returns
returns c =
    let w = c.loop-from.invariant.within in
    let t = c.loop-from-test.false in
    let all : c.loop-from.from ≡ length c.args.indices.now = omega (arith, w, t) in
    subst (λ n. AreIndexRangesTo c.args.plan.now c.args.indices.now n c.loop-from.ranges.items) all c.loop-from.invariant.are
