-- Lines that are counted from one place to the next.
use Rattle.std.proofs.Common.{◌≡◌, ◌∙◌, ◌+◌, ◌-◌, ◌<◌, ◌≤◌, Bool, true, false, ℕ, List, [], ◌∷◌, ◌++◌, ap, arith, cond}
use Rattle.std.proofs.Common.{count_by, drop, length, take}
use Rattle.std.proofs.Math.Seq.{take-add}
use Rattle.std.proofs.lemmas.List.Elements.{All-get_or, All-push, All-weaker}
use Rattle.std.proofs.lemmas.List.Sorted.{IsNonDecreasingBy-push}
use Rattle.std.proofs.lemmas.List.Sums.{sum_by-append}
use Rattle.std.specs.List.{All}
use Rattle.std.specs.List.Sorted.{IsNonDecreasing}
use Rattle.rv_list_locations.specs.LinesAndColumns.{is_line_feed, line_at}

line_behind : (text : List ℕ) (place n : ℕ)
    → line_at place text + count_by is_line_feed (take n (drop place text)) ≡ line_at (place + n) text
line_behind text place n =
    rw (take-add place n text, sum_by-append (λ b. cond (is_line_feed b) 1 0) (take place text) (take n (drop place text)))
    (omega arith)

-- the line at a later place is behind it by the line feeds in between
pub line_later : (text : List ℕ) (place later : ℕ) → place ≤ later
    → line_at place text + count_by is_line_feed (take (later - place) (drop place text)) ≡ line_at later text
line_later text place later before =
    let e : place + (later - place) ≡ later = omega arith in
    line_behind text place (later - place) ∙ ap (λ k. line_at k text) e

-- the lines of which each is from 1 to a last one
abbrev pub AreWithin : ℕ → List ℕ → Type 0
AreWithin last = All (λ line. (0 < line) × (line ≤ last))

within_more : (lines : List ℕ) (last line : ℕ) → last ≤ line → AreWithin last lines → AreWithin line lines
within_more lines last line later =
    All-weaker (λ n. (0 < n) × (n ≤ last)) (λ n. (0 < n) × (n ≤ line)) (λ n h. (h.0, omega (arith, h.1))) lines

-- a line that was noted or was not, and is the last one
pub within_noted : (is_noted : Bool) (lines noted : List ℕ) (last line : ℕ)
    → noted ≡ cond is_noted (lines ++ line ∷ []) lines → 0 < line → last ≤ line → AreWithin last lines
    → AreWithin line noted
within_noted true lines noted last line e some later are =
    rw e (All-push (λ n. (0 < n) × (n ≤ line)) lines line (within_more lines last line later are) (some, omega arith))
within_noted false lines noted last line e some later are = rw e (within_more lines last line later are)

-- it is behind no earlier one
pub rising_noted : (is_noted : Bool) (lines noted : List ℕ) (last line : ℕ)
    → noted ≡ cond is_noted (lines ++ line ∷ []) lines → last ≤ line → AreWithin last lines → IsNonDecreasing lines
    → IsNonDecreasing noted
rising_noted true lines noted last line e later are rise =
    rw e (IsNonDecreasingBy-push (λ n. n) lines line rise (λ d some.
    omega (arith, (All-get_or (λ n. (0 < n) × (n ≤ last)) lines (length lines - 1) d (omega arith) are).1)))
rising_noted false lines noted last line e later are rise = rw e rise
