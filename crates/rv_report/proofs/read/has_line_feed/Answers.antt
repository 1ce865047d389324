use Rattle.std.proofs.Common.{arith}
use Rattle.std.proofs.lemmas.Bool.Decides.{nat_tests}
use Rattle.rv_report.proofs.Loops.{feeds_here, feeds_later, feeds_end}
use Rattle.rv_report.proofs.read.has_line_feed.Goals as goal

pub returns-then-b-eq10 : goal.returns-then-b-eq10
returns-then-b-eq10 c = let h = feeds_here c.args.text.now c.loop-b.b-index (omega arith) (omega arith) in grind
    (arith, nat_tests)

pub loop-b-preserved : goal.loop-b-preserved
loop-b-preserved c = let h = feeds_later c.args.text.now c.loop-b.b-index (omega arith) c.if-b-eq10.false in omega arith

pub returns : goal.returns
returns c = let h = feeds_end c.args.text.now c.loop-b.b-index (omega arith) in grind (arith, nat_tests)
