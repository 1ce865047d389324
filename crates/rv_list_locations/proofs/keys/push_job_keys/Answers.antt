use Rattle.std.proofs.Common.{rules}
use Rattle.rv_list_locations.proofs.NamedKeys.{named_pushed}
use Rattle.rv_list_locations.proofs.keys.push_job_keys.Goals as goal

pub returns-in_err-push : goal.returns-in_err-push
returns-in_err-push c =
    named_pushed _ c.keys.keys.items c.push.new.self.items _ c.push.ensures.items c.keys.invariant.1 (search rules)

pub keys-preserved-in_ok-push : goal.keys-preserved-in_ok-push
keys-preserved-in_ok-push c = (
  search rules,
  named_pushed _ c.keys.keys.items c.push.new.self.items _ c.push.ensures.items c.keys.invariant.1 (search rules),
)
