-- The line is compared with the one that is written of what it says.
use Rattle.std.proofs.Common.{◌≡◌, ◌∙◌, sym}
use Rattle.std.specs.Cmp.Lexicographic.{bytes_decides}
use Rattle.rv_count_tables.specs.Text.{node_line}
use Rattle.rv_count_tables.proofs.ReadingStacks.{plain_name}
use Rattle.rv_count_tables.proofs.read_stacks.next_node.Goals as goal

pub returns-then-branch-clause-node : goal.returns-then-branch-clause-node
returns-then-branch-clause-node c text w =
    let read = c.in_ok-read.read in
    let same : c.args.line.now ≡ node_line read = (bytes_decides c.args.line.now (node_line read)).0
    (sym c.in_ok-has_node_line.ensures ∙ c.if-branch.true) in record {
      node = (c.can_come_next.ensures.0 c.if-can_come_next.true).0;
      name = plain_name text read (sym w ∙ same);
      text = c.in_ok-read.ensures.text;
    }
