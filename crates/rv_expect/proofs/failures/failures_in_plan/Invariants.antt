use Rattle.std.proofs.Common.{◌≡◌, take}
use Rattle.std.specs.List.{flat_map, zip}
use Rattle.std.specs.Prelude.{option_to_list}
use Rattle.rv_expect.specs.FailureKinds.{failure_in_plan}
use Rattle.rv_expect.specs.Judgement.{judge_view}
use Rattle.rv_expect.proofs.failures.failures_in_plan.Given as goal

abbrev pub invariant-loop-i : goal.invariant-loop-i
invariant-loop-i l = l.failures.items
    ≡ flat_map (λ placed. option_to_list (failure_in_plan (judge_view l.judge) l.plan placed.0 placed.1)) (take l.i (zip l.indices l.rows))
