-- Chunks of a list: how many there are, and how they are made and put together.
use Rattle.std.proofs.Common.{◌≡◌, ℕ, suc, ◌+◌, ◌-◌, ◌*◌, ◌/◌, ◌%◌, ◌<◌, ◌≤◌, min, List, [], ◌∷◌, ◌++◌, map, length}
use Rattle.std.proofs.Common.{take, drop, get_or, sym, ap, ◌∙◌, arith, div-add-mod', mul-le-mul_right, suc-mul}
use Rattle.std.proofs.Common.{length-drop}
use Rattle.std.specs.Int.{div_ceil}
use Rattle.std.specs.Fork.{slice_chunk}
use Rattle.std.proofs.Math.Nat.{mod-lt, mul-one, mul-le-mul_left}
use Rattle.std.proofs.lemmas.List.{length-map, take_all, take_more, take_min, get_or-drop, get_or-map}
use lib.Seq.{take-add}
use mathlib.Core.Logic.{dite}
use native.Mathlib.Decide.{dec_lt}

-- there are no more chunks than elements
pub chunks_few : (n group : ℕ) → 0 < group → div_ceil n group ≤ n
chunks_few n group some =
    let q : ℕ = n / group in
    let r : ℕ = n % group in
    let x : ℕ = q * group in
    let sum : x + r ≡ n = div-add-mod' n group in
    let many : q ≤ x = quotient_below q group some in
    omega arith
  where
    quotient_below : (q group : ℕ) → 0 < group → q ≤ q * group
    quotient_below q group some = omega (arith, mul-one q, mul-le-mul_left q some)

-- the first element of a chunk is an element
pub chunk_inside : (n group k : ℕ) → 0 < group → k < div_ceil n group → k * group < n
chunk_inside n group k some low =
    let q : ℕ = n / group in
    let r : ℕ = n % group in
    let x : ℕ = q * group in
    let sum : x + r ≡ n = div-add-mod' n group in
    dite (dec_lt k q)
    (λ y. let m : suc k * group ≤ q * group = mul-le-mul_right group y in let e = suc-mul k group in omega arith)
    (λ no. let same : k ≡ q = omega arith in let m : k * group ≡ x = ap (λ (z : ℕ). z * group) same in omega arith)

module _ {X : Type 0} where
  -- the elements from a place on, as many as a chunk has
  pub chunk_made : (xs : List X) (group k end : ℕ) (part : List X) → end ≡ k * group + min group (length xs - k * group)
      → part ≡ take (end - k * group) (drop (k * group) xs) → part ≡ slice_chunk xs group k
  chunk_made xs group k end part stop is =
      let rest : List X = drop (k * group) xs in
      let n : end - k * group ≡ min group (length rest) = omega (arith, length-drop (k * group) xs) in
      is ∙ (ap (λ (m : ℕ). take m rest) n ∙ take_min group rest)

  -- the chunks before one, and that one
  pub chunk_more : (xs : List X) (group k : ℕ) (had now part : List X) → had ≡ take (k * group) xs → now ≡ had ++ part
      → part ≡ slice_chunk xs group k → now ≡ take ((k + 1) * group) xs
  chunk_more xs group k had now part is pushed made =
      let n : (k + 1) * group ≡ k * group + group = omega (arith, suc-mul k group) in
      pushed ∙ ((λ i. is i ++ made i) ∙ (sym (take-add (k * group) group xs) ∙ ap (λ (m : ℕ). take m xs) (sym n)))

  -- all chunks are the list
  pub chunks_all : (xs : List X) (group k : ℕ) → 0 < group → k ≡ div_ceil (length xs) group → take (k * group) xs ≡ xs
  chunks_all xs group k some is =
      let n : ℕ = length xs in
      let q : ℕ = n / group in
      let r : ℕ = n % group in
      let x : ℕ = q * group in
      let sum : x + r ≡ n = div-add-mod' n group in
      let low : r < group = mod-lt n some in
      let step = suc-mul q group in
      take_all (k * group) xs (dite (dec_lt 0 r)
      (λ y. let e : k ≡ suc q = omega arith in
      let m : k * group ≡ suc q * group = ap (λ (z : ℕ). z * group) e in omega arith)
      (λ no. let e : k ≡ q = omega arith in let m : k * group ≡ x = ap (λ (z : ℕ). z * group) e in omega arith))

-- one element more of a part of a list that a function makes
pub part_more : {X Y : Type 0} (f : X → Y) (xs : List X) (start i : ℕ) (had now : List Y) (y : Y) (d : X) → start ≤ i
    → i < length xs
    → had ≡ take (i - start) (drop start (map f xs)) → now ≡ had ++ y ∷ [] → y ≡ f (get_or xs i d)
    → now ≡ take (i + 1 - start) (drop start (map f xs))
part_more {X} {Y} f xs start i had now y d from in' is pushed made =
    let rest : List Y = drop start (map f xs) in
    let n : ℕ = i - start in
    let at : start + n ≡ i = omega arith in
    let one : n + 1 ≡ i + 1 - start = omega arith in
    let within : n < length rest = omega (arith, length-drop start (map f xs), length-map xs f) in
    let next : get_or rest n (f d) ≡ y = get_or-drop start (map f xs) n (f d)
    ∙ (ap (λ (m : ℕ). get_or (map f xs) m (f d)) at ∙ (get_or-map f xs i d (f d) in' ∙ sym made)) in
    pushed ∙ ((λ j. is j ++ sym next j ∷ []) ∙ (sym (take_more rest n (f d) within) ∙ ap (λ (m : ℕ). take m rest) one))
