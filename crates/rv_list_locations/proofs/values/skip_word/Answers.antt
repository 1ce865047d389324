use Rattle.std.proofs.Common.{◌∙◌, ap, sym}
use Rattle.rv_list_locations.specs.JobLocations.{after_word}
use Rattle.rv_list_locations.proofs.JobTurns.{word_ends, word_is_none}
use Rattle.rv_list_locations.proofs.values.skip_word.Goals as goal

pub returns-then-rest-text-clause-value : goal.returns-then-rest-text-clause-value
returns-then-rest-text-clause-value c refused =
    let unmoved = c.letters.invariant.3 c.if-rest-text.true in
    ap after_word (sym unmoved)
    ∙ word_is_none c.letters.rest.now (sym c.begins_with_word_byte.ensures ∙ c.letters-test.false)

pub returns-clause-value : goal.returns-clause-value
returns-clause-value c =
    word_ends c.args.text.now c.letters.rest.now c.letters.invariant.2
    (sym c.begins_with_word_byte.ensures ∙ c.letters-test.false) c.if-rest-text.false
