-- The digest and the path stand behind the word.
use Rattle.std.proofs.Common.{◌∙◌, List, ℕ, drop, ap, sym, subst}
use Rattle.std.proofs.lemmas.Str.{IsUtf8-string_bytes}
use Rattle.std.specs.Str.{IsUtf8}
use Rattle.rv_count_tables.specs.Lines.{text_before_byte, text_after_byte, hex_bytes}
use Rattle.rv_count_tables.proofs.LineTexts.{digest_in_line, path_text}
use Rattle.rv_count_tables.proofs.read_lines.image_of_line.Goals as goal

pub returns-clause-digest : goal.returns-clause-digest
returns-clause-digest c i h is =
    c.new.ensures ∙ c.in_ok-digest.ensures
    ∙ ap hex_bytes (c.text_before_byte.ensures ∙ ap (text_before_byte 32) (c.tail_from-fields.ensures ∙ ap (drop 6) is))
    ∙ digest_in_line i h

pub returns-clause-path : goal.returns-clause-path
returns-clause-path c i h is =
    let e = c.text_before_byte-2.ensures ∙ ap (text_before_byte 10) (c.text_after_byte.ensures
    ∙ ap (text_after_byte 32) (c.tail_from-fields.ensures ∙ ap (drop 6) is)) ∙ path_text i h in
    c.new-2.ensures ∙ c.in_ok-path.ensures.ok (subst (λ (s : List ℕ). IsUtf8 s) (sym e) h.text) ∙ e

pub returns-clause-text : goal.returns-clause-text
returns-clause-text c = subst (λ (s : List ℕ). IsUtf8 s) (sym c.new-2.ensures) (IsUtf8-string_bytes c.in_ok-path.path)
