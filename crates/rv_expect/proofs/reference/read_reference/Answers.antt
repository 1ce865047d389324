use Rattle.std.proofs.Common.{◌∙◌, ◌+◌, ap, arith}
use Rattle.rv_expect.specs.declared.reference.Reference.TheVariants.{Words, BadLine}
use Rattle.rv_expect.proofs.References.{all_are_read, last_is_bad, line_is_bad, line_is_read}
use Rattle.rv_expect.proofs.reference.read_reference.Goals as goal

pub returns-in-None : goal.returns-in-None
returns-in-None c =
    ap (λ n. BadLine (n + 1)) (c.len.ensures ∙ c.loop-rest.words.ok.0)
    ∙ line_is_bad c.loop-rest.words.items c.loop-rest.rest.now c.args.text.now (omega arith) c.in-None.ensures
    c.loop-rest.invariant

pub loop-rest-preserved : goal.loop-rest-preserved
loop-rest-preserved c =
    line_is_read c.loop-rest.words.items c.push.new.self.items c.loop-rest.rest.now c.args.text.now c.in-Some.word
    (omega arith) c.in-Some.ensures c.in_ok-push-in-Some.ensures.items c.loop-rest.invariant

pub returns-then-is_empty : goal.returns-then-is_empty
returns-then-is_empty c =
    ap Words c.new.ensures
    ∙ all_are_read c.loop-rest.words.items c.loop-rest.rest.now c.args.text.now (grind arith) c.loop-rest.invariant

pub returns-else-is_empty : goal.returns-else-is_empty
returns-else-is_empty c =
    ap (λ n. BadLine (n + 1)) (c.len-else-is_empty.ensures ∙ c.loop-rest.words.ok.0)
    ∙ last_is_bad c.loop-rest.words.items c.loop-rest.rest.now c.args.text.now (omega arith) (grind arith)
    c.loop-rest.invariant
