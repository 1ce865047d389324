use Rattle.std.proofs.Common.{◌∙◌, [], ◌∷◌, ◌++◌, ap, sym, arith, map, take}
use Rattle.std.proofs.lemmas.List.{map_more}
use Rattle.rv_jobs.specs.Jobs.{single_job}
use Rattle.rv_rows.specs.Rows.{row_of}
use Rattle.rv_rows.proofs.plan_rows.run_one.Goals as goal

pub loop-i-init : goal.loop-i-init
loop-i-init c = record { rows = c.new-rows.ensures.items; recent = c.new-recent.ensures c.args.plan.now }

pub loop-i-preserved : goal.loop-i-preserved
loop-i-preserved c =
    let any = single_job [] 0 [] in
    let more = map_more (row_of c.args.plan.now) c.args.plan.now.jobs c.loop-i.i any
    (omega (arith, c.jobs-i-end.ensures.value)) in
    record {
      rows = c.in_ok-push.ensures.items ∙ ap (λ rows. rows ++ c.in_ok-row_at_with_recent.field-0 ∷ []) c.loop-i.invariant.rows
          ∙ ap (λ row. map (row_of c.args.plan.now) (take c.loop-i.i c.args.plan.now.jobs) ++ row ∷ [])
          (c.in_ok-row_at_with_recent.ensures.row any) ∙ sym more;
      recent = c.in_ok-row_at_with_recent.ensures.recent;
    }
