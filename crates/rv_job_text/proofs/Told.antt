-- Lines that are told: their texts, as they are appended one behind the other.
use Rattle.std.proofs.Common.{◌≡◌, ◌++◌, ℕ, List, [], ap, append_assoc, append-nil}

pub byte_told : (byte n is q m ex w : List ℕ)
    → byte ++ (n ++ ((is ++ q) ++ (m ++ ((q ++ (ex ++ q)) ++ (w ++ (q ++ []))))))
    ≡ ((((byte ++ n) ++ is) ++ ((q ++ m) ++ q)) ++ ex) ++ ((q ++ w) ++ q)
byte_told byte n is q m ex w = simp (append_assoc, append-nil)

pub words_told : (index actual ex expected : List ℕ)
    → index ++ (actual ++ (ex ++ (expected ++ []))) ≡ ((index ++ actual) ++ ex) ++ expected
words_told index actual ex expected = simp (append_assoc, append-nil)

pub three_told : (a b c : List ℕ) → a ++ (b ++ (c ++ [])) ≡ (a ++ b) ++ c
three_told a b c = simp (append_assoc, append-nil)

pub refused_told : (before a name z : List ℕ) → before ++ (a ++ (name ++ (z ++ []))) ≡ before ++ ((a ++ name) ++ z)
refused_told before a name z = simp (append_assoc, append-nil)

pub ended_told : (before kind name : List ℕ) → before ++ (kind ++ (name ++ [])) ≡ before ++ (kind ++ name)
ended_told before kind name = ap (λ text. before ++ (kind ++ text)) (append-nil name)

-- from one symbol to another
pub ends_told : (f b b1 b2 to e e1 e2 z : List ℕ)
    → f ++ (b ++ (b1 ++ (b2 ++ (to ++ (e ++ (e1 ++ (e2 ++ (z ++ []))))))))
    ≡ (f ++ (((b ++ (b1 ++ b2)) ++ to) ++ (e ++ (e1 ++ e2)))) ++ z
ends_told f b b1 b2 to e e1 e2 z = simp (append_assoc, append-nil)

-- in which line the first difference is
pub heading_told : (a source b number c count z : List ℕ)
    → a ++ (source ++ (b ++ (number ++ (c ++ (count ++ (z ++ []))))))
    ≡ (((((a ++ source) ++ b) ++ number) ++ c) ++ count) ++ z
heading_told a source b number c count z = simp (append_assoc, append-nil)
