use Rattle.std.proofs.Common.{◌∙◌, sym}
use Rattle.rv_report.proofs.Parts.{is_part}
use Rattle.rv_report.proofs.saved.Shard.matches_job_numbers.Goals as goal

pub are_evenly_spaced-requires-clause-first : goal.are_evenly_spaced-requires-clause-first
are_evenly_spaced-requires-clause-first c = (is_part c.args.self.now (sym c.is_valid_shard.ensures ∙ c.if-is_valid_shard.true)).number

pub are_evenly_spaced-requires-clause-step : goal.are_evenly_spaced-requires-clause-step
are_evenly_spaced-requires-clause-step c = (is_part c.args.self.now (sym c.is_valid_shard.ensures ∙ c.if-is_valid_shard.true)).shards

pub are_evenly_spaced-requires-clause-last : goal.are_evenly_spaced-requires-clause-last
are_evenly_spaced-requires-clause-last c = (is_part c.args.self.now (sym c.is_valid_shard.ensures ∙ c.if-is_valid_shard.true)).jobs
