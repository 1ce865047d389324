use Rattle.rv_profile.proofs.First.{within_there}
use Rattle.rv_profile.proofs.image_lines.push_function_lines.Goals as goal

pub push_function_line-requires : goal.push_function_line-requires
push_function_line-requires c =
    within_there c.args.steps c.args.functions.now c.loop-function.function-index _ c.requires c.loop-function-test.true
