use Rattle.rv_merge.proofs.Sharded.{parts_from}
use Rattle.rv_merge.proofs.parts_law.shards_give_the_parts_of_the_whole.Goals as goal

pub returns : goal.returns
returns c = λ list answers run texts listed is from.
    parts_from list answers run listed is
    (λ places some same. c.parts_have_the_rows_of_the_whole.ensures list some answers places same) texts from
