use Rattle.std.proofs.Common.{rules}
use Rattle.clap.specs.Words.{found_of}
use Rattle.clap.proofs.WalkLemmas.{raw_values-rows}
use Rattle.rv_cli.proofs.values.argument_values.Goals as goal

pub returns-in-Some : goal.returns-in-Some
returns-in-Some c = let rows = raw_values-rows (found_of c.args.values.now) c.args.id.now in search rules

pub returns-in-None : goal.returns-in-None
returns-in-None c = let rows = raw_values-rows (found_of c.args.values.now) c.args.id.now in search rules
