use Rattle.std.proofs.Common.{arith}
use Rattle.std.proofs.lemmas.Map.Text.{hash_map_updates_str}
use Rattle.std.specs.HashMap.{get_by}
use Rattle.std.specs.Str.{bytes_eq}
use Rattle.rv_diff.proofs.Names.{found_more}
use Rattle.rv_diff.proofs.rows_by_name.RowsByName.new.Goals as goal

pub loop-left-preserved : goal.loop-left-preserved
loop-left-preserved c =
    let key = c.as_str.result.now in
    record {
      first_by_name = found_more c.args.rows.now c.loop-left.left _ key
          (λ name. get_by (λ k. bytes_eq name k.now) c.loop-left.first_by_name)
          (λ name. get_by (λ k. bytes_eq name k.now) c.insert.new.self) (omega arith) (omega arith)
          (hash_map_updates_str key c.loop-left.first_by_name c.insert.new.self _ c.in_ok-insert.ensures.updates)
          c.index-rows-left.is c.as_str.ensures c.loop-left.invariant.first_by_name;
      within = omega arith;
    }
