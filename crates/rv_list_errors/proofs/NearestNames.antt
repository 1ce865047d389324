-- The first of the names that are nearest to a text, as far as a look has come.
use Rattle.std.proofs.Common.{◌≡◌, ◌∙◌, ◌+◌, ◌<◌, ◌≤◌, ℕ, List, [], length, Option, Some, None, arith, ap, below_more, inl, inr, refl, sym, subst, unwrap_or}
use Rattle.std.proofs.Common.{◌⊎◌}
use Rattle.std.specs.Borrow.{Bor}
use Rattle.rv_list_errors.specs.FaultHeads.{borrowed_name}
use Rattle.std.specs.Prelude.{MatchOption, Err, IsOk, Ok, OnOk, Result, slice_index_or}
use Rattle.rv_list_errors.specs.NearestJob.{IsNear}
use Rattle.rv_list_errors.specs.NearNames.{IsNearName, distance_at, farthest, name_distance}

-- this name is at the place, and each before it is farther
pub record IsFoundAt (names : List (Option (List ℕ))) (text : List ℕ) (count : ℕ) (nearest : Option (List ℕ)) (least : ℕ)
    : Type 0 where
  pub place : ℕ
  pub within : place < count
  pub is : slice_index_or names place None ≡ nearest
  pub so_far : least ≡ distance_at names text place
  pub near : least < farthest
  pub first : (other : ℕ) → other < place → least < distance_at names text other

-- of so many names none is nearer, and this one is, if any is nearer than the farthest
pub record IsNearestSoFar (names : List (Option (List ℕ))) (text : List ℕ) (count : ℕ) (nearest : Option (List ℕ)) (least : ℕ)
    : Type 0 where
  pub of_all : (other : ℕ) → other < count → least ≤ distance_at names text other
  pub found : ((nearest ≡ None) × (least ≡ farthest)) ⊎ IsFoundAt names text count nearest least

one_place : (a b : ℕ) → (a < b → ⊥) → (b < a → ⊥) → a ≡ b
one_place a b not_below not_above = grind arith

pub none_so_far : (names : List (Option (List ℕ))) (text : List ℕ) → IsNearestSoFar names text 0 None farthest
none_so_far names text = record { of_all = λ other low. absurd (omega arith); found = inl (refl, refl) }

module _ (names : List (Option (List ℕ))) (text : List ℕ) (count : ℕ) (nearest : Option (List ℕ)) (least : ℕ)
    (so : IsNearestSoFar names text count nearest least) where
  at_most : least ≤ farthest
  at_most = elim so.found [ inl none ↦ omega (arith, none.1) | inr there ↦ omega (arith, there.near) ]

  -- the next name is nearer than each before it
  pub nearer : (name : Option (List ℕ)) (distance : ℕ) → slice_index_or names count None ≡ name
      → distance ≡ name_distance text name → distance < least → IsNearestSoFar names text (count + 1) name distance
  nearer name distance is measured less =
      let here : distance ≡ distance_at names text count = measured ∙ ap (name_distance text) (sym is) in
      let most = at_most in
      record {
        of_all = below_more _ _ (λ other low. omega (arith, so.of_all other low)) (omega (arith, here));
        found = inr (record {
          place = count;
          within = omega arith;
          is = is;
          so_far = here;
          near = omega arith;
          first = λ other low. omega (arith, so.of_all other low);
        });
      }

  -- the next name is no nearer
  pub no_nearer : (name : Option (List ℕ)) (distance : ℕ) → slice_index_or names count None ≡ name
      → distance ≡ name_distance text name → least ≤ distance → IsNearestSoFar names text (count + 1) nearest least
  no_nearer name distance is measured more =
      let here : distance ≡ distance_at names text count = measured ∙ ap (name_distance text) (sym is) in
      record {
        of_all = below_more _ _ so.of_all (omega (arith, here));
        found = elim so.found [
          | inl none ↦ inl none
          | inr there ↦ inr (record {
            place = there.place;
            within = omega (arith, there.within);
            is = there.is;
            so_far = there.so_far;
            near = there.near;
            first = there.first;
          })
        ];
      }

  -- a look that has come to the end finds a name that is near
  pub near_found : (name : List ℕ) → nearest ≡ Some name → count ≡ length names → IsNear least name
      → IsNearName names text (Some name)
  near_found name is all near = elim so.found [
    | inl none ↦ cc (none.0)
    | inr there ↦ (
      there.place,
      record {
        within = omega (arith, there.within);
        least = λ other low. omega (arith, so.of_all other (omega arith), there.so_far);
        first = λ other low. omega (arith, there.first other low, there.so_far);
      },
      (
        omega (arith, there.near, there.so_far),
        rw (← there.so_far, there.is, is) near,
      ),
      there.is ∙ is,
    )
  ]

  farthest_none : (place : ℕ) → slice_index_or names place None ≡ None → distance_at names text place ≡ farthest
  unfolding name_distance
  farthest_none place none = rw none refl

  -- or there is none that is near
  pub none_near : count ≡ length names → ((name : List ℕ) → nearest ≡ Some name → IsNear least name → ⊥)
      → IsNearName names text None
  none_near all far place closest near = elim so.found [
    | inl none ↦ absurd (omega (arith, none.1, so.of_all place (omega (arith, closest.within)), near.0))
    | inr there ↦ (
        let not_below : place < there.place → ⊥ = λ low. omega (
          arith,
          there.first place low,
          closest.least there.place (omega (arith, there.within)),
          there.so_far,
        ) in
        let not_above : there.place < place → ⊥ = λ high. omega (
          arith,
          closest.first there.place high,
          so.of_all place (omega (arith, closest.within)),
          there.so_far,
        ) in
        let same : place ≡ there.place = one_place place there.place not_below not_above in
        let name_is : slice_index_or names place None ≡ nearest = rw same there.is in
        let far_as : distance_at names text place ≡ least = rw same (sym there.so_far) in
        of_either nearest name_is (λ name is. far name is
        (let P : Option (List ℕ) → Type 0 = λ o. IsNear least (unwrap_or o []) in
        subst P (name_is ∙ is) (rw far_as at near.1)))
        (λ none. omega (arith, farthest_none place (name_is ∙ none), near.0))
        )
  ]
    where
      of_either : (o : Option (List ℕ)) → slice_index_or names place None ≡ nearest
          → ((name : List ℕ) → o ≡ Some name → ⊥) → (o ≡ None → ⊥) → ⊥
      of_either (Some name) _ some none = some name refl
      of_either None _ some none = none refl

-- what came of the question whether the nearest is near
pub near_or_none : (names : List (Option (List ℕ))) (text : List ℕ) (count : ℕ) (nearest : Option (List ℕ)) (least : ℕ)
    (so : IsNearestSoFar names text count nearest least) (name : List ℕ) (result : Option (Bor (List ℕ)))
    → nearest ≡ Some name → count ≡ length names
    → MatchOption result (IsNear least name → ⊥) (λ near. (near.now ≡ name) × IsNear least name)
    → IsNearName names text (borrowed_name result)
near_or_none names text count nearest least so name None is all far =
    none_near names text count nearest least so all (λ other there near.
    let same : other ≡ name = cc in
    far (rw same at near))
near_or_none names text count nearest least so name (Some near) is all found =
    near_found names text count nearest least so near.now (rw found.0 is) all (rw found.0 found.1)

-- what is so unless a growth was refused, before a step and behind it
pub unless_refused : {S T E F : Type 0} (grown : Result S E) (after : Result T F) (P A D B : Type 0) → OnOk grown (P × A)
    → OnOk after (IsOk grown × D) → (A → D → B) → OnOk after (P × B)
unless_refused (Ok x) (Ok y) P A D B had has next = (had.0, next had.1 has.1)
unless_refused (Err e) (Ok y) P A D B had has next = cc (has.0)
unless_refused grown (Err e) P A D B had has next = tt

-- at the beginning
pub unless_refused_first : {S E : Type 0} (grown : Result S E) (A : Type 0) → A → OnOk grown (IsOk grown × A)
unless_refused_first (Ok x) A so = (refl, so)
unless_refused_first (Err e) A so = tt

pub unless_refused_still : {S E : Type 0} (grown : Result S E) (P A B : Type 0) → OnOk grown (P × A) → (A → B)
    → OnOk grown (P × B)
unless_refused_still (Ok x) P A B had next = (had.0, next had.1)
unless_refused_still (Err e) P A B had next = tt
