use Rattle.std.proofs.Common.{◌∙◌, ap, sym}
use Rattle.rv_command.specs.Names.{is_name}
use Rattle.rv_choice.proofs.shard.requested_shard.Goals as goal
use Rattle.rv_choice.proofs.shard.requested_shard.Goals.{in-Some-stamp+in_ok-stamp-in-Some-stamp, in-None+in_ok-stamp-in-None}

pub returns-clause-stamp_is_name : goal.returns-clause-stamp_is_name
returns-clause-stamp_is_name c = elim c.match-args-2.branch [
  | in-Some-stamp+in_ok-stamp-in-Some-stamp w ↦
      rw w.in-Some-stamp.is (ap is_name (sym w.as_bytes.ensures.value) ∙ (sym w.is_name.ensures ∙ w.if-is_name.true))
  | in-None+in_ok-stamp-in-None w ↦ rw w.in-None.is tt
]
