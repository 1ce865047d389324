-- The places of texts in a list.
use Rattle.std.proofs.Common.{◌≡◌, ◌∙◌, ◌+◌, ◌<◌, ◌++◌, Bool, true, false, ℕ, List, [], ◌∷◌, Option, Some, None, IfSome}
use Rattle.std.proofs.Common.{refl, ap, sym, length, option_map, cond, arith, subst}
use Rattle.std.specs.Str.{bytes_eq}
use Rattle.std.proofs.lemmas.Slice.Eq.{bytes_eq-Decides}
use Rattle.std.proofs.lemmas.Bool.{both_ways, false_from_ne_true}
use Rattle.std.specs.BTreeMap.{BTreeMap, get_by_text}
use Rattle.std.specs.HashMap as hash
use Rattle.std.specs.HashMap.{HashMap}
use denote.Ref.{Bor}
use Rattle.std.specs.String.{string_cmp, string_bytes}
use Rattle.std.specs.declared.alloc.Global.{Global}
use Rattle.std.proofs.Common.{String}
use Rattle.std.proofs.lemmas.Map.Text.{btree_map_updates_text}
use Rattle.std.specs.BTreeMap.{Updates}
use Rattle.rv_base.specs.Names.{index_in}

below_at : (b : Bool) (o : Option ℕ) (n m : ℕ) → n + 1 ≡ m → IfSome o (λ k. k < n)
    → IfSome (cond b (Some 0) (option_map (λ k. k + 1) o)) (λ k. k < m)
below_at true o n m e h = omega arith
below_at false None n m e h = tt
below_at false (Some k) n m e h = omega arith

-- a place is one of the list
pub place_below : (xs : List (List ℕ)) (t : List ℕ) → IfSome (index_in xs t) (λ k. k < length xs)
unfolding index_in
place_below [] t = tt
place_below (x ∷ xs) t =
    below_at (bytes_eq t x) (index_in xs t) (length xs) (length (x ∷ xs)) (omega arith) (place_below xs t)

same : (a b : List ℕ) → bytes_eq a b ≡ true → a ≡ b
same a b e = (bytes_eq-Decides a b).0 e

is_same : (a b : List ℕ) → a ≡ b → bytes_eq a b ≡ true
is_same a b e = (bytes_eq-Decides a b).1 e

-- the test reads the same from both sides
pub bytes_eq-flip : (a b : List ℕ) → bytes_eq a b ≡ bytes_eq b a
bytes_eq-flip a b = elim (bytes_eq a b) as (λ v. bytes_eq a b ≡ v → v ≡ bytes_eq b a) [
  | true ↦ λ e. sym (is_same b a (sym (same a b e)))
  | false ↦ λ e. sym (false_from_ne_true (bytes_eq b a) (λ f. both_ways _ e (is_same a b (sym (same b a f)))))
] refl

none_head : (b : Bool) (o : Option ℕ) → cond b (Some 0) (option_map (λ k. k + 1) o) ≡ None → (b ≡ false) × (o ≡ None)
none_head true o e = cc
none_head false None e = (refl, refl)
none_head false (Some k) e = cc

last_at : (hit found : Bool) (o p : Option ℕ) (n m : ℕ) → n + 1 ≡ m → (hit ≡ true → found ≡ false)
    → p ≡ cond hit (Some n) o
    → cond found (Some 0) (option_map (λ k. k + 1) p)
    ≡ cond hit (Some m) (cond found (Some 0) (option_map (λ k. k + 1) o))
last_at true true o p n m e apart is = absurd (both_ways true (apart refl) refl)
last_at true false o p n m e apart is = ap (option_map (λ k. k + 1)) is ∙ ap Some e
last_at false found o p n m e apart is = ap (λ x. cond found (Some 0) (option_map (λ k. k + 1) x)) is

-- a text that is new has the place behind the others, which keep theirs
pub place_last : (xs : List (List ℕ)) (t q : List ℕ) → index_in xs t ≡ None
    → index_in (xs ++ t ∷ []) q ≡ cond (bytes_eq t q) (Some (length xs)) (index_in xs q)
unfolding index_in
place_last [] t q e = ap (λ b. cond b (Some 0) None) (bytes_eq-flip q t)
place_last (x ∷ xs) t q e =
    let parts = none_head (bytes_eq t x) (index_in xs t) e in
    let apart : bytes_eq t q ≡ true
    → bytes_eq q x ≡ false = λ h. subst (λ z. bytes_eq z x ≡ false) (same t q h) parts.0 in
    last_at (bytes_eq t q) (bytes_eq q x) (index_in xs q) (index_in (xs ++ t ∷ []) q) (length xs) (length (x ∷ xs))
    (omega arith) apart (place_last xs t q parts.1)

-- no texts, and no places
pub none_placed : (m : BTreeMap (String Global) ℕ) (xs : List (List ℕ)) → m.entries ≡ [] → xs ≡ [] → (t : List ℕ)
    → get_by_text m t ≡ index_in xs t
unfolding index_in
none_placed m xs e f t = rw (e, f) refl

-- what finds each text's place finds it still, after that of a new text was put in
pub places_more : (before after : List ℕ → Option ℕ) (xs new : List (List ℕ)) (x : List ℕ) (at : ℕ)
    → ((t : List ℕ) → after t ≡ cond (bytes_eq x t) (Some at) (before t)) → at ≡ length xs
    → ((t : List ℕ) → before t ≡ index_in xs t) → index_in xs x ≡ None → new ≡ xs ++ x ∷ [] → (t : List ℕ)
    → after t ≡ index_in new t
places_more before after xs new x at put is placed fresh pushed t =
    put t
    ∙ ap (λ i. cond (bytes_eq x t) (Some i) (before t)) is
    ∙ ap (λ o. cond (bytes_eq x t) (Some (length xs)) o) (placed t)
    ∙ sym (ap (λ y. index_in y t) pushed ∙ place_last xs x t fresh)

-- and after a text that had a place was given another one, and its own again
pub places_back : (before between after : List ℕ → Option ℕ) (x : List ℕ) (at place : ℕ)
    → ((t : List ℕ) → between t ≡ cond (bytes_eq x t) (Some at) (before t))
    → ((t : List ℕ) → after t ≡ cond (bytes_eq x t) (Some place) (between t)) → before x ≡ Some place → (t : List ℕ)
    → after t ≡ before t
places_back before between after x at place put again had t =
    again t ∙ ap (λ o. cond (bytes_eq x t) (Some place) o) (put t) ∙ own (bytes_eq x t) refl
  where
    own : (b : Bool) → bytes_eq x t ≡ b → cond b (Some place) (cond b (Some at) (before t)) ≡ before t
    own true e = sym had ∙ ap before (same x t e)
    own false e = refl

-- one text more, at the place behind the others
pub texts_more : (m n : BTreeMap (String Global) ℕ) (xs new : List (List ℕ)) (x : List ℕ) (key : String Global)
    (at : ℕ) → Updates string_cmp m n key (Some at) → string_bytes key ≡ x → at ≡ length xs
    → ((t : List ℕ) → get_by_text m t ≡ index_in xs t) → index_in xs x ≡ None → new ≡ xs ++ x ∷ [] → (t : List ℕ)
    → get_by_text n t ≡ index_in new t
texts_more m n xs new x key at updates is_key =
    places_more (get_by_text m) (get_by_text n) xs new x at
    (λ t. btree_map_updates_text (string_bytes key) m n (Some at) updates t
    ∙ ap (λ b. cond (bytes_eq b t) (Some at) (get_by_text m t)) is_key)

pub no_places : {S : Type 0} (m : HashMap (Bor (List ℕ)) ℕ S) (xs : List (List ℕ)) → m.entries ≡ [] → xs ≡ []
    → (t : List ℕ) → hash.get_by (λ k. bytes_eq t k.now) m ≡ index_in xs t
unfolding index_in
no_places m xs e f t = rw (e, f) refl
