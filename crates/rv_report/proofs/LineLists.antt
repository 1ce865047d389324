-- Lists of lines, and their text.
use Rattle.std.proofs.Common.{◌≡◌, ◌∙◌, ◌==◌, ℕ, true, not, List, [], ◌∷◌, ◌++◌, length}
use Rattle.std.proofs.Common.{take, drop, get_or, refl, sym, ap, arith, append_assoc, subst}
use Rattle.std.specs.List.{flat_map, AllByRecursion}
use Rattle.std.proofs.lemmas.Bool.{and_parts, false≢true}
use Rattle.rv_report.specs.Report.{line}
use Rattle.rv_report.specs.LenientReport.{ReaderStateView, with_line}
use Rattle.rv_report.proofs.Pieces.{lacks}
use Rattle.rv_report.proofs.Spelled.{says, says_line}

-- the text of lines, each with its line feed
abbrev pub joined : List (List ℕ) → List ℕ
joined ls = flat_map line ls

-- no line has a line feed in it
abbrev pub AreLines : List (List ℕ) → Type 0
AreLines ls = AllByRecursion (λ l. lacks 10 l ≡ true) ls

pub no_feed : (b : ℕ) (bs : List ℕ) → lacks 10 (b ∷ bs) ≡ true → b ≡ 10 → ⊥
no_feed b bs h e =
    let f : lacks 10 (10 ∷ bs) ≡ true = subst (λ (n : ℕ). lacks 10 (n ∷ bs) ≡ true) e h in
    false≢true f

-- texts that are the same have the same first line
pub same_line : (xs ys a b : List ℕ) → lacks 10 xs ≡ true → lacks 10 ys ≡ true → line xs ++ a ≡ line ys ++ b
    → (xs ≡ ys) × (a ≡ b)
same_line [] [] a b hx hy e = (refl, ap (λ (t : List ℕ). drop 1 t) e)
same_line [] (y ∷ ys) a b hx hy e = absurd (no_feed y ys hy (sym (ap (λ (t : List ℕ). get_or t 0 0) e)))
same_line (x ∷ xs) [] a b hx hy e = absurd (no_feed x xs hx (ap (λ (t : List ℕ). get_or t 0 0) e))
same_line (x ∷ xs) (y ∷ ys) a b hx hy e =
    let px = and_parts (not (x == 10)) (lacks 10 xs) hx in
    let py = and_parts (not (y == 10)) (lacks 10 ys) hy in
    let first : x ≡ y = ap (λ (t : List ℕ). get_or t 0 0) e in
    let rest = same_line xs ys a b px.1 py.1 (ap (λ (t : List ℕ). drop 1 t) e) in
    (ap (λ (n : ℕ). n ∷ xs) first ∙ ap (λ (t : List ℕ). y ∷ t) rest.0, rest.1)

pub line_is_some : (l a : List ℕ) → line l ++ a ≡ [] → ⊥
line_is_some [] a e = let n : length (10 ∷ a) ≡ 0 = ap (λ (t : List ℕ). length t) e in omega arith
line_is_some (b ∷ bs) a e =
    let n : length (b ∷ ((bs ++ 10 ∷ []) ++ a)) ≡ 0 = ap (λ (t : List ℕ). length t) e in omega arith

-- a beginning of a text that is whole lines has the text's first lines
pub first_of_lines : (ls ms : List (List ℕ)) (v : List ℕ) → AreLines ls → AreLines ms → joined ls ++ v ≡ joined ms
    → ls ≡ take (length ls) ms
first_of_lines [] ms v h k e = refl
first_of_lines (l ∷ ls) [] v h k e = absurd (line_is_some l (joined ls ++ v)
    (sym (append_assoc (line l) (joined ls) v) ∙ e))
first_of_lines (l ∷ ls) (m ∷ ms) v h k e =
    let same = same_line l m (joined ls ++ v) (joined ms) h.0 k.0 (sym (append_assoc (line l) (joined ls) v) ∙ e) in
    ap (λ (t : List ℕ). t ∷ ls) same.0 ∙ ap (λ (ts : List (List ℕ)). m ∷ ts) (first_of_lines ls ms v h.1 k.1 same.1)

-- what lines say, the first before the others
pub says_first : (l : List ℕ) (ls : List (List ℕ)) (w : List ℕ) (g : ReaderStateView) → lacks 10 l ≡ true
    → says (joined (l ∷ ls) ++ w) g ≡ says (joined ls ++ w) (with_line l g)
says_first l ls w g h = ap (λ (t : List ℕ). says t g) (append_assoc (line l) (joined ls) w)
    ∙ says_line l (joined ls ++ w) g h
