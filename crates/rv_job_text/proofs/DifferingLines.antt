-- Lines with their line feeds, of two texts.
use Rattle.std.proofs.Common.{◌≡◌, ◌∙◌, refl, ap, sym, ℕ, zero, suc, ◌+◌, ◌-◌, ◌<◌, List, [], ◌∷◌, ◌++◌, length, take, drop, get_or, arith}
use Rattle.std.proofs.Common.{Bool, true, false, cond}
use Rattle.std.specs.Prelude.{not}
use Rattle.std.specs.List.{common_prefix_len, onto_first, position_or_len}
use Rattle.std.specs.Str.{bytes_eq}
use Rattle.std.specs.Bool.{Decides}
use Rattle.std.proofs.lemmas.List.{at_drop_more}
use Rattle.std.proofs.lemmas.Slice.Eq.{bytes_eq-Decides}
use Rattle.rv_job_text.specs.ConsoleTail.{is_line_feed}
use Rattle.rv_job_text.specs.ConsoleLines.{begins_character, characters_len, differing_line_count, first_or_empty, diff_line, diff_lines, complete_lines}

-- the first byte of a text, where its first line goes on for so many bytes and one more, unless it is a line feed
front_step : (feed : Bool) (byte len : ℕ) (rest : List ℕ) →
    onto_first byte (complete_lines rest) ≡ (byte ∷ take (len + 1) rest) ∷ complete_lines (drop (len + 1) rest) →
    cond feed ((byte ∷ []) ∷ complete_lines rest) (onto_first byte (complete_lines rest))
    ≡ take (cond (not feed) (1 + len) 0 + 1) (byte ∷ rest) ∷ complete_lines (drop (cond (not feed) (1 + len) 0 + 1) (byte ∷ rest))
front_step true byte len rest goes_on = refl
front_step false byte len rest goes_on =
    let behind : 1 + len + 1 ≡ suc (len + 1) = omega arith in
    rw behind goes_on

-- a text is its first line, up to the first line feed, and the lines behind it
pub complete_lines-front : (text : List ℕ) → 0 < length text →
    complete_lines text ≡ take (position_or_len is_line_feed text + 1) text ∷ complete_lines (drop (position_or_len is_line_feed text + 1) text)
unfolding complete_lines
complete_lines-front [] some = absurd (omega arith)
complete_lines-front (byte ∷ []) some = front_step (is_line_feed byte) byte 0 [] refl
complete_lines-front (byte ∷ next ∷ rest) some =
    front_step (is_line_feed byte) byte (position_or_len is_line_feed (next ∷ rest)) (next ∷ rest)
    (ap (onto_first byte) (complete_lines-front (next ∷ rest) (omega arith)))

pub complete_lines-nil : (text : List ℕ) → length text ≡ 0 → complete_lines text ≡ []
unfolding complete_lines
complete_lines-nil [] none = refl
complete_lines-nil (byte ∷ rest) none = absurd (omega arith)

-- ---- characters

pub characters_stop : (text : List ℕ) (i : ℕ) → i < length text → begins_character (get_or text i 0) ≡ true
    → characters_len 0 (drop i text) ≡ 0
unfolding characters_len
characters_stop text i within begins =
    at_drop_more (characters_len 0) text i 0 within
    ∙ ap (λ (b : Bool). cond b 0 (1 + characters_len 0 (drop (i + 1) text))) begins

pub characters_next : (left : ℕ) (text : List ℕ) (i : ℕ) → 0 < left → i < length text
    → begins_character (get_or text i 0) ≡ true
    → characters_len left (drop i text) ≡ 1 + characters_len (left - 1) (drop (i + 1) text)
unfolding characters_len
characters_next zero text i some within begins = absurd (omega arith)
characters_next (suc most) text i some within begins =
    let one_less : suc most - 1 ≡ most = omega arith in
    rw one_less
    (at_drop_more (characters_len (suc most)) text i 0 within
    ∙ ap (λ (b : Bool). 1 + characters_len (cond b most (suc most)) (drop (i + 1) text)) begins)

pub characters_go_on : (left : ℕ) (text : List ℕ) (i : ℕ) → i < length text
    → begins_character (get_or text i 0) ≡ false
    → characters_len left (drop i text) ≡ 1 + characters_len left (drop (i + 1) text)
unfolding characters_len
characters_go_on zero text i within inside =
    at_drop_more (characters_len 0) text i 0 within
    ∙ ap (λ (b : Bool). cond b 0 (1 + characters_len 0 (drop (i + 1) text))) inside
characters_go_on (suc most) text i within inside =
    at_drop_more (characters_len (suc most)) text i 0 within
    ∙ ap (λ (b : Bool). 1 + characters_len (cond b most (suc most)) (drop (i + 1) text)) inside

-- ---- the line in front

-- what is split off a text is its first line, where there is one
pub split_front : (text line behind : List ℕ) → (0 < length text → complete_lines text ≡ line ∷ complete_lines behind)
    → (length text ≡ 0 → (line ≡ []) × (behind ≡ [])) → line ≡ first_or_empty (complete_lines text)
split_front [] line behind some none =
    (none refl).0 ∙ sym (ap first_or_empty (complete_lines-nil [] refl))
split_front (byte ∷ rest) line behind some none = sym (ap first_or_empty (some (omega arith)))

-- and what is left has the lines behind it
pub split_behind : (text line behind : List ℕ) → (0 < length text → complete_lines text ≡ line ∷ complete_lines behind)
    → (length text ≡ 0 → (line ≡ []) × (behind ≡ [])) → complete_lines behind ≡ drop 1 (complete_lines text)
split_behind [] line behind some none =
    ap complete_lines (none refl).1 ∙ complete_lines-nil [] refl ∙ sym (ap (drop 1) (complete_lines-nil [] refl))
split_behind (byte ∷ rest) line behind some none = sym (ap (drop 1) (some (omega arith)))

pub equal_bytes : (xs ys : List ℕ) → xs ≡ ys → bytes_eq xs ys ≡ true
equal_bytes xs ys same = (bytes_eq-Decides xs ys).1 same

undecided : (b : Bool) (P : Type 0) → Decides b P → (P → ⊥) → b ≡ false
undecided true P decides other = absurd (other (decides.0 refl))
undecided false P decides other = refl

pub unequal_bytes : (xs ys : List ℕ) → (xs ≡ ys → ⊥) → bytes_eq xs ys ≡ false
unequal_bytes xs ys other = undecided (bytes_eq xs ys) (xs ≡ ys) (bytes_eq-Decides xs ys) other

-- ---- lines that differ

pub differing_stops : (left : ℕ) (actual expected : List (List ℕ)) → first_or_empty actual ≡ first_or_empty expected
    → differing_line_count left actual expected ≡ 0
unfolding differing_line_count
differing_stops zero actual expected same = refl
differing_stops (suc most) actual expected same =
    ap (λ (b : Bool). cond b 0 (1 + differing_line_count most (drop 1 actual) (drop 1 expected)))
    (equal_bytes (first_or_empty actual) (first_or_empty expected) same)

pub differing_next : (left : ℕ) (actual expected : List (List ℕ)) → 0 < left → (first_or_empty actual ≡ first_or_empty expected → ⊥)
    → differing_line_count left actual expected ≡ 1 + differing_line_count (left - 1) (drop 1 actual) (drop 1 expected)
unfolding differing_line_count
differing_next zero actual expected some other = absurd (omega arith)
differing_next (suc most) actual expected some other =
    let one_less : suc most - 1 ≡ most = omega arith in
    rw one_less
    (ap (λ (b : Bool). cond b 0 (1 + differing_line_count most (drop 1 actual) (drop 1 expected)))
    (unequal_bytes (first_or_empty actual) (first_or_empty expected) other))

pub differing_none : (actual expected : List (List ℕ)) → differing_line_count 0 actual expected ≡ 0
unfolding differing_line_count
differing_none actual expected = refl

-- ---- equal lines in front

pub parted : (actual expected : List (List ℕ)) → (first_or_empty actual ≡ first_or_empty expected → ⊥)
    → common_prefix_len bytes_eq actual expected ≡ 0
parted [] expected other = refl
parted (x ∷ xs) [] other = refl
parted (x ∷ xs) (y ∷ ys) other =
    ap (λ (b : Bool). cond b (1 + common_prefix_len bytes_eq xs ys) 0) (unequal_bytes x y other)

pub joined : (x : List ℕ) (xs expected : List (List ℕ)) → 0 < length x → x ≡ first_or_empty expected
    → common_prefix_len bytes_eq (x ∷ xs) expected ≡ 1 + common_prefix_len bytes_eq xs (drop 1 expected)
joined x xs [] full same = let none : length x ≡ 0 = ap length same in absurd (omega arith)
joined x xs (y ∷ ys) full same =
    ap (λ (b : Bool). cond b (1 + common_prefix_len bytes_eq xs ys) 0) (equal_bytes x y same)

pub none_in_front : (expected : List (List ℕ)) → common_prefix_len bytes_eq [] expected ≡ 0
none_in_front expected = refl

-- ---- lines of a side

pub diff_lines-end : (margin : List ℕ) (left : ℕ) (other : List (List ℕ)) → diff_lines margin left [] other ≡ []
unfolding diff_lines
diff_lines-end margin zero other = refl
diff_lines-end margin (suc left) other = refl

pub diff_lines-none : (margin : List ℕ) (own other : List (List ℕ)) → diff_lines margin 0 own other ≡ []
unfolding diff_lines
diff_lines-none margin own other = refl

pub diff_lines-next : (margin : List ℕ) (left : ℕ) (own : List ℕ) (more other : List (List ℕ)) → 0 < left
    → diff_lines margin left (own ∷ more) other
    ≡ diff_line margin own (first_or_empty other) ++ diff_lines margin (left - 1) more (drop 1 other)
unfolding diff_lines
diff_lines-next margin zero own more other some = absurd (omega arith)
diff_lines-next margin (suc left) own more other some =
    let one_less : suc left - 1 ≡ left = omega arith in rw one_less refl
