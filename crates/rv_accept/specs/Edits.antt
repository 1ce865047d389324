-- A text with some ranges replaced.
use Rattle.std.specs.Prelude.{ℕ, List, [], ◌∷◌, ◌++◌, ◌-◌, take, drop}
use Rattle.rv_accept.specs.declared.edits.Edit.{Edit}

-- the bytes of a text from the offset `from` up to, but not including, `to`
abbrev pub text_range : ℕ → ℕ → List ℕ → List ℕ
text_range from to text = take (to - from) (drop from text)

-- the text from the offset `from` on, with the range of each edit replaced by the edit's text; the edits are in text order
unfoldable pub edited_rest : ℕ → List ℕ → List Edit → List ℕ
edited_rest from text [] = drop from text
edited_rest from text (edit ∷ edits) = text_range from edit.begin text ++ edit.text ++ edited_rest edit.end text edits
