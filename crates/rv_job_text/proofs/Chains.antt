-- Texts that are appended one after the other, whichever job they are of.
use Rattle.std.proofs.Common.{◌≡◌, ◌++◌, ◌∙◌, ℕ, List, Result, Ok, Err, OnOk, ap, append_assoc}

-- the last text, which a call appends where it succeeds
pub ended : {D T E : Type 0} (r : Result T E) (old mid new : List ℕ) (a b : D → List ℕ)
    → ((d : D) → mid ≡ old ++ a d) → OnOk r ((d : D) → new ≡ mid ++ b d)
    → OnOk r ((d : D) → new ≡ old ++ (a d ++ b d))
ended (Ok x) old mid new a b first last =
    λ d. last d ∙ (ap (λ text. text ++ b d) (first d) ∙ append_assoc old (a d) (b d))
ended (Err e) old mid new a b first last = last

-- a text that is the same whichever job it is told of
pub told_of_each : {D T E : Type 0} (r : Result T E) (old new text : List ℕ) (told : D → List ℕ)
    → ((d : D) → text ≡ told d) → OnOk r (new ≡ old ++ text) → OnOk r ((d : D) → new ≡ old ++ told d)
told_of_each (Ok x) old new text told same last = λ d. last ∙ ap (λ t. old ++ t) (same d)
told_of_each (Err e) old new text told same last = last
