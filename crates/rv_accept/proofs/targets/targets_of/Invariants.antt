use Rattle.std.proofs.Common.{◌≡◌, [], take, fold}
use Rattle.rv_accept.specs.Targets.{with_target}
use Rattle.rv_accept.proofs.targets.targets_of.Given as goal

abbrev pub invariant-loop-golden_text : goal.invariant-loop-golden_text
invariant-loop-golden_text l = l.targets.items ≡ fold (with_target l.runs l.golden_texts) [] (take l.golden_text-index l.golden_texts)
