use Rattle.std.proofs.Common.{inr, rules}
use Rattle.std.specs.Path.{path_buf_bytes}
use Rattle.rvtest_app.specs.Overwrites.{output_role_text}
use Rattle.rvtest_app.proofs.accept_inputs.outside_stop.Goals as goal

pub returns : goal.returns
returns c = inr (
  path_buf_bytes c.args.golden.now.path,
  inr (inr (output_role_text c.args.golden.now.role, c.args.directory.now, (search rules))),
)
