use Rattle.std.proofs.Common.{map, take}
use Rattle.rvtest_app.specs.Merges.{AreTextsAt}
use Rattle.rvtest_app.proofs.merge.read_part_texts.Given as goal

abbrev pub invariant-loop-path : goal.invariant-loop-path
invariant-loop-path g l = AreTextsAt (g.D.Inputs.contents l.inputs) (take l.path-index l.args.parts.items) (map (λ text. text.items) l.texts.items)
