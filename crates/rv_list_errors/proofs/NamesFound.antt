-- Places in a list and in the list of what its elements stand for.
use Rattle.std.proofs.Common.{◌≡◌, ◌∙◌, ◌+◌, ◌<◌, arith, inl, inr, subst, ℕ, Bool, true, false, not, List, [], ◌∷◌, cond, length, Option, Some, None, ap, refl, sym}
use Rattle.std.specs.Prelude.{map, nat_lt, option_map}
use Rattle.std.specs.List.{find, position, prefix_len}
use Rattle.std.proofs.lemmas.Bool.{cases_lt}
use Rattle.std.proofs.lemmas.List.{length-map}
use Rattle.std.specs.Borrow.{Bor}
use Rattle.rv_list_errors.specs.FaultHeads.{borrowed_name, borrowed_names}
use Rattle.rv_list_errors.specs.JobFaults.{is_name_of, number_of_name}

module _ {A B : Type 0} (p : B → Bool) (f : A → B) where
  prefix_of_map : (xs : List A) → prefix_len p (map f xs) ≡ prefix_len (λ x. p (f x)) xs
  prefix_of_map [] = refl
  prefix_of_map (x ∷ xs) = ap (λ n. cond (p (f x)) (1 + n) 0) (prefix_of_map xs)

  pub find_of_map : (xs : List A) → find p (map f xs) ≡ option_map f (find (λ x. p (f x)) xs)
  find_of_map [] = refl
  find_of_map (x ∷ xs) = by (p (f x)) (find_of_map xs)
    where
      by : (b : Bool) → find p (map f xs) ≡ option_map f (find (λ x. p (f x)) xs)
          → cond b (Some (f x)) (find p (map f xs)) ≡ option_map f (cond b (Some x) (find (λ x. p (f x)) xs))
      by true e = refl
      by false e = e

pub place_in_map : {A B : Type 0} (p : B → Bool) (f : A → B) (xs : List A)
    → position p (map f xs) ≡ position (λ x. p (f x)) xs
place_in_map p f xs =
    ap (λ n. cond (nat_lt n (length (map f xs))) (Some n) None) (prefix_of_map (λ b. not (p b)) f xs)
    ∙ ap (λ n. cond (nat_lt (prefix_len (λ x. not (p (f x))) xs) n) (Some (prefix_len (λ x. not (p (f x))) xs)) None)
    (length-map xs f)

pub number_of_place : (name : List ℕ) (names : List (Option (Bor (List ℕ)))) (place : Option ℕ)
    → place ≡ position (λ other. is_name_of name (borrowed_name other)) names
    → option_map (λ place. place + 1) place ≡ number_of_name (borrowed_names names) (Some name)
number_of_place name names place e =
    ap (option_map (λ place. place + 1)) (e ∙ sym (place_in_map (is_name_of name) borrowed_name names))

-- one place more at which something is so
pub one_more_so : (P : ℕ → Type 0) (n : ℕ) → ((place : ℕ) → place < n → P place) → P n → (place : ℕ) → place < n + 1
    → P place
one_more_so P n before here place low =
    elim (cases_lt place n) [
      | inl less ↦ before place less
      | inr more ↦
          let last : n ≡ place = omega arith in
          subst P last here
    ]
