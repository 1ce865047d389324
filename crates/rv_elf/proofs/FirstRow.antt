-- The first row that applies.
use Rattle.std.proofs.Common.{◌≡◌, Bool, true, false, ◌||◌, List, [], ◌∷◌, refl, ap, ◌∙◌, cond, rules, Result, Ok, Err}
use Rattle.std.specs.List.{list_any}
use Rattle.rv_elf.specs.declared.error.ImageError.{ImageError}
use Rattle.rv_elf.specs.Rows.{ErrorRow, first_error_of, accepted}

passed_at : {X : Type 0} (b : Bool) (w : ImageError) (rest : Result (Unit {0}) ImageError)
    (more next : Result X ImageError)
    → (rest ≡ accepted → more ≡ next) → cond b (Err w) rest ≡ accepted → cond b (Err w) more ≡ next
passed_at true w rest more next ih e = cc
passed_at false w rest more next ih e = ih e

refused_at : {X : Type 0} (b : Bool) (w v : ImageError) (rest : Result (Unit {0}) ImageError)
    (more : Result X ImageError)
    → (rest ≡ Err v → more ≡ Err v) → cond b (Err w) rest ≡ Err v → cond b (Err w) more ≡ Err v
refused_at true w v rest more ih e = cc
refused_at false w v rest more ih e = ih e

-- rows that refuse nothing leave what follows
pub none_refuses : {X : Type 0} (rows : List ErrorRow) (next : Result X ImageError) → first_error_of rows accepted ≡ accepted
    → first_error_of rows next ≡ next
none_refuses [] next e = refl
none_refuses (row ∷ rows) next e = passed_at row.0 row.1 (first_error_of rows accepted) (first_error_of rows next) next
    (none_refuses rows next) e

-- and a refusal of theirs stays, whatever follows
pub refusal_stays : {X : Type 0} (rows : List ErrorRow) (next : Result X ImageError) (w : ImageError)
    → first_error_of rows accepted ≡ Err w → first_error_of rows next ≡ Err w
refusal_stays [] next w e = cc
refusal_stays (row ∷ rows) next w e = refused_at row.0 row.1 w (first_error_of rows accepted) (first_error_of rows next)
    (refusal_stays rows next w) e

passed_before : {X : Type 0} (b : Bool) (w : ImageError) (more : Result X ImageError) (x : X)
    → cond b (Err w) more ≡ Ok x → (b ≡ false) × (more ≡ Ok x)
passed_before true w more x e = search rules
passed_before false w more x e = (refl, e)

-- where the answer is no refusal, no row refuses, and what follows gives the answer
pub none_refused : {X : Type 0} (rows : List ErrorRow) (next : Result X ImageError) (x : X) → first_error_of rows next ≡ Ok x
    → (list_any (λ r. r.0) rows ≡ false) × (next ≡ Ok x)
none_refused [] next x e = (refl, e)
none_refused (row ∷ rows) next x e =
    let p = passed_before row.0 row.1 (first_error_of rows next) x e in
    let q = none_refused rows next x p.1 in
    (ap (λ b. b || list_any (λ r. r.0) rows) p.0 ∙ q.0, q.1)
