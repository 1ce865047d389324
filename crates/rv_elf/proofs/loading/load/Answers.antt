use Rattle.rv_elf.proofs.Opening.{opening_memory_none, bytes_there, fits_bus, one_more}
use Rattle.rv_elf.proofs.loading.load.Goals as goal

pub loop-segment-init : goal.loop-segment-init
loop-segment-init c = opening_memory_none c.args.bus.now c.args.file.now c.args.load_at c.requires.new_bus

pub write_segment-requires-clause-in_file : goal.write_segment-requires-clause-in_file
write_segment-requires-clause-in_file c =
    bytes_there c.args.file.now c.args.image.now c.as_slice-segment-items.result.now c.as_slice-segment-items.ensures
    c.requires.image c.loop-segment.segment-index c.loop-segment-test.true

pub write_segment-requires-clause-fits : goal.write_segment-requires-clause-fits
write_segment-requires-clause-fits c =
    fits_bus c.args.file.now c.args.image.now c.as_slice-segment-items.result.now c.as_slice-segment-items.ensures
    c.requires.image c.loop-segment.segment-index c.loop-segment-test.true
    c.args.bus.now c.args.load_at c.requires.fits c.loop-segment.bus c.loop-segment.invariant

pub loop-segment-preserved : goal.loop-segment-preserved
loop-segment-preserved c =
    one_more c.args.file.now c.args.image.now c.as_slice-segment-items.result.now c.as_slice-segment-items.ensures
    c.requires.image c.loop-segment.segment-index c.loop-segment-test.true
    c.args.bus.now c.args.load_at c.requires.fits c.loop-segment.bus c.loop-segment.invariant c.write_segment.new.bus c.write_segment.ensures
