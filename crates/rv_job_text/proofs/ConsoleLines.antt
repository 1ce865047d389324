-- A text that is not empty is its first line and the lines behind it.
use Rattle.std.proofs.Common.{◌≡◌, refl, ap, ℕ, suc, ◌+◌, ◌<◌, List, [], ◌∷◌, length, take, drop, arith}
use Rattle.std.proofs.Common.{Bool, true, false, cond}
use Rattle.std.specs.Prelude.{not}
use Rattle.std.specs.List.{after_first, before_first, onto_first, position_or_len}
use Rattle.rv_job_text.specs.ConsoleTail.{is_line_feed, text_lines}

-- the first byte of a text, where its first line goes on for so many bytes behind it, unless it is a line feed
front_step : (feed : Bool) (byte len : ℕ) (rest : List ℕ) →
    onto_first byte (text_lines rest) ≡ (byte ∷ take len rest) ∷ text_lines (drop (len + 1) rest) →
    cond feed ([] ∷ text_lines rest) (onto_first byte (text_lines rest))
    ≡ take (cond (not feed) (1 + len) 0) (byte ∷ rest) ∷ text_lines (drop (cond (not feed) (1 + len) 0 + 1) (byte ∷ rest))
front_step true byte len rest goes_on = refl
front_step false byte len rest goes_on =
    let behind : 1 + len + 1 ≡ suc (len + 1) = omega arith in
    let line : 1 + len ≡ suc len = omega arith in
    rw (behind, line) goes_on

pub lines_of-front : (text : List ℕ) → 0 < length text →
    text_lines text ≡ before_first is_line_feed text ∷ text_lines (after_first is_line_feed text)
unfolding text_lines
lines_of-front [] some = absurd (omega arith)
lines_of-front (byte ∷ []) some = front_step (is_line_feed byte) byte 0 [] refl
lines_of-front (byte ∷ next ∷ rest) some =
    front_step (is_line_feed byte) byte (position_or_len is_line_feed (next ∷ rest)) (next ∷ rest)
    (ap (onto_first byte) (lines_of-front (next ∷ rest) (omega arith)))

pub lines_of-empty : (text : List ℕ) → length text ≡ 0 → text_lines text ≡ []
unfolding text_lines
lines_of-empty [] none = refl
lines_of-empty (byte ∷ rest) none = absurd (omega arith)
