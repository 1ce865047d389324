use Rattle.std.proofs.Common.{refl}
use Rattle.rv_list_errors.specs.NearNames.{names_from, present}
use Rattle.rv_list_errors.proofs.NamesTold.{adds_nothing, count_next, more_told, present_next}
use Rattle.rv_list_errors.proofs.names.push_first_names.Goals as goal

pub loop-name-init : goal.loop-name-init
unfolding present names_from
loop-name-init c = record { told = refl; text = adds_nothing c.args.message.now }

pub loop-name-preserved : goal.loop-name-preserved
loop-name-preserved c =
    let next = present_next c.args.names.now c.loop-name.name-index c.loop-name-test.true in
    record {
      told = count_next c.args.names.now c.loop-name.name-index c.loop-name-test.true c.loop-name.listed_count
          c.push_next_name-listed_count.result c.loop-name.invariant.told c.push_next_name-listed_count.ensures.listed_count;
      text = rw next (more_told c.args.message.now c.loop-name.message c.push_next_name-listed_count.new.message c.args.count
          c.loop-name.listed_count _ _ _ c.loop-name.invariant.told c.loop-name.invariant.text
          c.push_next_name-listed_count.ensures.text);
    }
