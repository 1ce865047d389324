use Rattle.std.proofs.Common.{◌≡◌, ◌∙◌, ◌+◌, ◌∷◌, ◌++◌, [], Bool, List, ap, sym, arith, length}
use Rattle.std.specs.List.{range_with_len}
use Rattle.std.proofs.lemmas.List.{length-map}
use Rattle.std.proofs.lemmas.List.FromFn.{length-range_with_len, map-range_with_len_more}
use Rattle.rv_rows.specs.Selection.{selected_indices}
use Rattle.rv_merge.specs.Shards.{is_in_shard, shard_selection}
use Rattle.rv_merge.proofs.Sharded.{marked_by}
use Rattle.rv_merge.proofs.shards.shard_selection.Goals as goal

pub loop-index-preserved : goal.loop-index-preserved
loop-index-preserved c =
    let place = c.loop-index.index in
    let f = is_in_shard c.args.shards c.args.number in
    let zero : 0 + place ≡ place = omega arith in
    c.in_ok-push.ensures.items ∙ ap (λ (l : List Bool). l ++ f place ∷ []) c.loop-index.invariant
    ∙ sym (map-range_with_len_more f 0 place place zero)

pub returns-clause-length : goal.returns-clause-length
returns-clause-length c =
    let last : c.loop-index.index ≡ c.args.job_count = omega arith in
    ap length c.loop-index.invariant
    ∙ length-map (range_with_len 0 c.loop-index.index) (is_in_shard c.args.shards c.args.number)
    ∙ length-range_with_len 0 c.loop-index.index ∙ last

pub returns-clause-indices : goal.returns-clause-indices
returns-clause-indices c =
    let last : c.loop-index.index ≡ c.args.job_count = omega arith in
    ap (λ (l : List Bool). selected_indices l c.args.job_count)
    (c.loop-index.invariant ∙ ap (shard_selection c.args.shards c.args.number) last)
    ∙ marked_by (is_in_shard c.args.shards c.args.number) c.args.job_count
