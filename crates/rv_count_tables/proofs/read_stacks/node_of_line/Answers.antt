-- Each part says its number, or the name.
use Rattle.std.proofs.Common.{◌∙◌, List, ℕ, take, drop, ap, sym, subst}
use Rattle.std.proofs.lemmas.Str.{IsUtf8-string_bytes}
use Rattle.std.specs.Str.{IsUtf8}
use Rattle.rv_count_tables.specs.Lines.{text_before_byte, text_after_byte}
use Rattle.rv_count_tables.proofs.LineTexts.{depth_digits, spot_function_digits, arrivals_digits, steps_digits, name_text, same_spot_of}
use Rattle.rv_count_tables.proofs.read_stacks.node_of_line.Goals as goal

pub returns-clause-node : goal.returns-clause-node
returns-clause-node c n h is =
    let k = h.node in
    let words = c.tail_from-fields.ensures ∙ ap (drop 5) is in
    let function = c.text_after_byte-function.ensures ∙ ap (text_after_byte 32) words in
    let numbers = c.tail_from-numbers.ensures ∙ ap (drop 9) function in
    let behind = c.text_after_byte-later_numbers.ensures ∙ ap (text_after_byte 32) numbers in
    same_spot_of _ n.node
    (c.decimal_number.ensures n.node.depth k.depth
    (c.text_before_byte-2.ensures ∙ ap (text_before_byte 32) words ∙ depth_digits n k))
    (c.hex_word.ensures n.node.function k.function
    (c.leading_bytes.ensures ∙ ap (take 8) function ∙ spot_function_digits n k))
    (c.decimal_number-2.ensures n.node.calls k.calls
    (c.text_before_byte-3.ensures ∙ ap (text_before_byte 32) numbers ∙ arrivals_digits n k))
    (c.decimal_number-3.ensures n.node.steps k.steps
    (c.text_before_byte-4.ensures ∙ ap (text_before_byte 32) behind ∙ steps_digits n k))

pub returns-clause-name : goal.returns-clause-name
returns-clause-name c n h is =
    let words = c.tail_from-fields.ensures ∙ ap (drop 5) is in
    let function = c.text_after_byte-function.ensures ∙ ap (text_after_byte 32) words in
    let numbers = c.tail_from-numbers.ensures ∙ ap (drop 9) function in
    let behind = c.text_after_byte-later_numbers.ensures ∙ ap (text_after_byte 32) numbers in
    let e = c.text_before_byte.ensures ∙ ap (text_before_byte 10) (c.text_after_byte.ensures ∙ ap (text_after_byte 32) behind)
    ∙ name_text n h in
    c.new.ensures ∙ c.in_ok-name.ensures.ok (subst (λ (s : List ℕ). IsUtf8 s) (sym e) h.text) ∙ e

pub returns-clause-text : goal.returns-clause-text
returns-clause-text c = subst (λ (s : List ℕ). IsUtf8 s) (sym c.new.ensures) (IsUtf8-string_bytes c.in_ok-name.name)
