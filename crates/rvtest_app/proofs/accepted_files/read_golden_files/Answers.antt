use Rattle.std.proofs.Common.{ap, arith, length, refl}
use Rattle.std.specs.Vec.Iter.{into_iter_items, into_iter_len}
use Rattle.rv_command.specs.Texts.{optional_text}
use Rattle.rvtest_app.proofs.AcceptedFiles.{all_files, none_left, one_more_file, one_target_less}
use Rattle.rvtest_app.proofs.accepted_files.read_golden_files.Goals as goal

pub loop-target-preserved : goal.loop-target-preserved
loop-target-preserved g c =
    let contents = g.D.Inputs.contents c.args.inputs.now in
    let root = optional_text c.args.root in
    let rest = c.in-Some.ensures.steps.0 in
    record {
      goes = one_more_file contents root c.args.targets.items (into_iter_items c.loop-target.target-iterator)
          (into_iter_items c.next.new.self) c.in-Some.target c.loop-target.files.items c.push_golden_file.new.files.items _
          c.loop-target.invariant.goes rest
          (record {
            same_target = refl;
            resolved = rw c.as_str.ensures at c.in_ok-resolved.ensures;
            old_contents = rw c.as_str-in-loop-target.ensures at c.in_ok-old.ensures.contents;
          })
          c.in_ok-push_golden_file.ensures;
      last = one_target_less contents root c.args.targets.items (into_iter_items c.loop-target.target-iterator)
          (into_iter_items c.next.new.self) c.in-Some.target c.loop-target.invariant.last rest;
      counted = omega (arith, c.in-Some.ensures.steps.1, c.loop-target.invariant.counted, ap length rest);
    }

pub returns-clause-read : goal.returns-clause-read
returns-clause-read g c =
    all_files (g.D.Inputs.contents c.args.inputs.now) (optional_text c.args.root) c.args.targets.items
    (into_iter_items c.loop-target.target-iterator) c.loop-target.files.items c.loop-target.invariant.goes
    (none_left _ (into_iter_len c.loop-target.target-iterator) c.loop-target.invariant.counted c.in-None.ensures.steps.0)
