-- Each name is one more.
use Rattle.std.proofs.Common.{◌≡◌, ◌∙◌, ◌++◌, ◌+◌, ◌∷◌, [], List, add-one, ap, subst, sym, take}
use Rattle.std.proofs.Math.Seq.{take-suc}
use Rattle.rv_count_tables.specs.ParsedNodes.{IsIndexOf}
use Rattle.rv_count_tables.specs.declared.table.FunctionName.{FunctionName}
use Rattle.rv_count_tables.proofs.SpotIndexes.{index_keeps, index_more, no_index}
use Rattle.rv_count_tables.proofs.text.index_of_functions.Goals as goal
use Rattle.rv_count_tables.proofs.text.index_of_functions.Goals.{then-not-contains_key+in_ok-fields+in_ok-insert+in-None-1, then-not-contains_key+in_ok-fields+in_ok-insert+in-Some-1, else-not-contains_key}

pub loop-name-init : goal.loop-name-init
loop-name-init c = no_index c.new-index.result c.new-index.ensures.empty

pub loop-name-preserved : goal.loop-name-preserved
loop-name-preserved c =
    let names = c.args.names.now in
    let at = c.loop-name.name-index in
    let earlier = take at names in
    let name = c.name-item.result in
    let more : take (at + 1) names ≡ earlier ++ name ∷ [] =
    ap (λ n. take n names) (add-one at) ∙ take-suc names at name c.loop-name-test.true
    ∙ ap (λ (n : FunctionName). earlier ++ n ∷ []) (sym c.name-item.is) in
    subst (λ (ns : List FunctionName). IsIndexOf ns c.if-not-contains_key.index) (sym more)
    (elim c.if-not-contains_key.branch [
      | then-not-contains_key+in_ok-fields+in_ok-insert+in-None-1 w ↦
          rw w.index-is
          (index_more c.loop-name.index w.insert.new.self earlier name w.in_ok-fields.fields c.loop-name.invariant
          (sym c.contains_key.ensures ∙ w.if-not-contains_key.true) w.in_ok-insert.ensures.updates w.in_ok-fields.ensures)
      | then-not-contains_key+in_ok-fields+in_ok-insert+in-Some-1 w ↦
          rw w.index-is
          (index_more c.loop-name.index w.insert.new.self earlier name w.in_ok-fields.fields c.loop-name.invariant
          (sym c.contains_key.ensures ∙ w.if-not-contains_key.true) w.in_ok-insert.ensures.updates w.in_ok-fields.ensures)
      | else-not-contains_key w ↦
          rw w.index-is
          (index_keeps c.loop-name.index earlier name c.loop-name.invariant
          (sym c.contains_key.ensures ∙ w.if-not-contains_key.false))
    ])
