-- Lines that are told at once, and the texts that they are put together from.
use Rattle.std.proofs.Common.{◌≡◌, ◌++◌, ◌∙◌, ℕ, List, [], Result, Ok, Err, OnOk, ap, append_assoc, append-nil}

-- what a call appends where it succeeds, in other words
pub told : {T E : Type 0} (r : Result T E) (old new a b : List ℕ) → a ≡ b → OnOk r (new ≡ old ++ a)
    → OnOk r (new ≡ old ++ b)
told (Ok x) old new a b same appends = appends ∙ ap (λ text. old ++ text) same
told (Err e) old new a b same appends = appends

-- ---- in the order of the spans: what changed, behind the name of a job

pub word_told : (b name c g w n x to y z : List ℕ)
    → b ++ (name ++ ((c ++ (g ++ w)) ++ (n ++ (c ++ (x ++ (to ++ (y ++ (z ++ []))))))))
    ≡ (((b ++ name) ++ c) ++ (g ++ (((w ++ n) ++ c) ++ ((x ++ to) ++ y)))) ++ z
word_told b name c g w n x to y z = simp (append_assoc, append-nil)

pub counts_told : (b name c g n to k z : List ℕ)
    → b ++ (name ++ ((c ++ g) ++ (n ++ (to ++ (k ++ (z ++ []))))))
    ≡ (((b ++ name) ++ c) ++ (g ++ ((n ++ to) ++ k))) ++ z
counts_told b name c g n to k z = simp (append_assoc, append-nil)

pub byte_told : (b name c g w n q x to y z : List ℕ)
    → b ++ (name ++ ((c ++ (g ++ w)) ++ (n ++ ((c ++ q) ++ (x ++ ((q ++ (to ++ q)) ++ (y ++ ((q ++ z) ++ []))))))))
    ≡ (((b ++ name) ++ c) ++ (g ++ (((w ++ n) ++ c) ++ ((((q ++ x) ++ q) ++ to) ++ ((q ++ y) ++ q))))) ++ z
byte_told b name c g w n q x to y z = simp (append_assoc, append-nil)

-- a signature that is gone, one that is new, and none in either

pub gone_told : (b name c g n to none z : List ℕ)
    → b ++ (name ++ ((c ++ g) ++ (n ++ ((to ++ (none ++ z)) ++ []))))
    ≡ (((b ++ name) ++ c) ++ (g ++ ((n ++ to) ++ none))) ++ z
gone_told b name c g n to none z = simp (append_assoc, append-nil)

pub new_told : (b name c g none to n z : List ℕ)
    → b ++ (name ++ ((c ++ (g ++ (none ++ to))) ++ (n ++ (z ++ []))))
    ≡ (((b ++ name) ++ c) ++ (g ++ ((none ++ to) ++ n))) ++ z
new_told b name c g none to n z = simp (append_assoc, append-nil)

pub none_told : (b name c g none to z : List ℕ)
    → b ++ (name ++ ((c ++ (g ++ (none ++ (to ++ (none ++ z))))) ++ []))
    ≡ (((b ++ name) ++ c) ++ (g ++ ((none ++ to) ++ none))) ++ z
none_told b name c g none to z = simp (append_assoc, append-nil)
