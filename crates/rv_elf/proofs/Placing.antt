-- What memory holds once a segment's bytes are placed.
use Rattle.std.proofs.Common.{◌≡◌, ◌∙◌, ◌≤◌, ◌<◌, ◌+◌, ◌-◌, ℕ, suc, Bool, true, false, ◌&&◌, cond, eqb, leb, ltb, List}
use Rattle.std.proofs.Common.{[], ◌∷◌, refl, sym, ap, arith, length, get_or, take, drop, ⊎_elim, IsTrue}
use Rattle.std.specs.List.{list_any}
use Rattle.std.proofs.lemmas.Bool.{or_cases, and_parts, and_from, leb-true, ltb-true, ltb-false, lt-ltb, le-leb}
use Rattle.std.proofs.lemmas.Bool.{eqb-true, eqb-false, eq-eqb, or_left, or_right, cond-true, cond-false}
use Rattle.std.proofs.lemmas.Bool.{false_from_ne_true, both_ways}
use Rattle.std.proofs.lemmas.List.{get_or-take, get_or-drop, length-take-le, length-drop}
use Rattle.rv_memory.specs.declared.map.Region.{Region}
use Rattle.rv_memory.specs.Regions.{covers, is_in_one_region, addresses, tabulate}
use Rattle.rv_memory.specs.Bus.{with_bytes_written}
use Rattle.rv_memory.proofs.Public.{among, among_addresses, is_covered, covers_bounds, tabulate-insert, tabulate-same}
use Rattle.rv_elf.specs.declared.image.Segment.{Segment}
use Rattle.rv_elf.specs.declared.loading.LoadAt.{LoadAt}
use Rattle.rv_elf.specs.Loading.{load_address, any_segments_overlap, segment_fills, segment_byte, file_bytes, initial_byte, initial_memory}
use Rattle.rv_elf.proofs.Sharing.{opening_byte_more}
use Rattle.rv_elf.proofs.Reading.{in_file, in_file_bounds}

-- the n addresses from a on have q
abbrev pub has : ℕ → ℕ → ℕ → Bool
has a n q = leb a q && ltb q (a + n)

has_there : (a n q : ℕ) → a ≤ q → q < a + n → has a n q ≡ true
has_there a n q l u = and_from _ _ (le-leb a q l) (lt-ltb q (a + n) u)

has_bounds : (a n q : ℕ) → has a n q ≡ true → (a ≤ q) × (q < a + n)
has_bounds a n q h = let p = and_parts (leb a q) (ltb q (a + n)) h in (leb-true a q p.0, ltb-true q (a + n) p.1)

-- the first of the bytes, and those behind it
first_byte : (a b q x : ℕ) (bs : List ℕ) → cond (has a (suc (length bs)) q) (get_or (b ∷ bs) (q - a) 0) x ≡ cond
    (has (a + 1) (length bs) q) (get_or bs (q - (a + 1)) 0) (cond (eqb q a) b x)
first_byte a b q x bs =
    let n = length bs in
    elim (has (a + 1) n q) as (λ c. has (a + 1) n q ≡ c → cond (has a (suc n) q) (get_or (b ∷ bs) (q - a) 0) x ≡ cond c
    (get_or bs (q - (a + 1)) 0) (cond (eqb q a) b x)) [
      | true ↦ λ h. (let p = has_bounds (a + 1) n q h in
          cond-true _ _ _ (has_there a (suc n) q (omega arith) (omega arith))
          ∙ ap (λ k. get_or (b ∷ bs) k 0) (let k : q - a ≡ suc (q - (a + 1)) = omega arith in k))
      | false ↦ λ h.
          (elim (eqb q a) as (λ d. eqb q a ≡ d → cond (has a (suc n) q) (get_or (b ∷ bs) (q - a) 0) x ≡ cond d b x) [
            | true ↦ λ e. (let s = eqb-true q a e in
                cond-true _ _ _ (has_there a (suc n) q (omega arith) (omega arith))
                ∙ ap (λ k. get_or (b ∷ bs) k 0) (let k : q - a ≡ 0 = omega arith in k))
            | false ↦ λ e. cond-false _ _ _
                (false_from_ne_true _
                (λ t. (let p = has_bounds a (suc n) q t in let d = eqb-false q a e in
                both_ways _ h (has_there (a + 1) n q (omega arith) (omega arith)))))
          ] refl)
    ] refl

-- bytes put into a table make the table with them
tabulate-put : (keys : List ℕ) (f g : ℕ → ℕ) (a : ℕ) (bytes : List ℕ)
    → ((k : ℕ) → k < length bytes → among (a + k) keys ≡ true)
    → ((q : ℕ) → among q keys ≡ true → g q ≡ cond (has a (length bytes) q) (get_or bytes (q - a) 0) (f q))
    → tabulate keys g ≡ with_bytes_written (tabulate keys f) a bytes
tabulate-put keys f g a [] here each =
    tabulate-same keys f g (λ q m. each q m
    ∙ cond-false _ _ _ (false_from_ne_true _ (λ t. (let p = has_bounds a 0 q t in absurd (omega arith)))))
tabulate-put keys f g a (b ∷ bs) here each =
    let h : ℕ → ℕ = λ q. cond (eqb q a) b (f q) in
    tabulate-put keys h g (a + 1) bs (λ k l. ap (λ x. among x keys) (omega arith) ∙ here (k + 1) (omega arith))
    (λ q m. each q m ∙ first_byte a b q (f q) bs)
    ∙ ap (λ m. with_bytes_written m (a + 1) bs)
    (tabulate-insert keys f h a b (ap (λ x. among x keys) (omega arith) ∙ here 0 (omega arith))
    (cond-true _ _ _ (eq-eqb a a refl)) (λ q m e. cond-false _ _ _ e))

-- bytes that lie in one region have addresses of it
covered_each : (rs : List Region) (a n k : ℕ) → list_any (covers a n) rs ≡ true → k < n → is_covered rs (a + k) ≡ true
covered_each [] a n k h l = h
covered_each (r ∷ rs) a n k h l =
    ⊎_elim (λ g. or_left _ _ (let c = covers_bounds a n r g in and_from _ _ (le-leb r.base (a + k) (omega arith))
    (le-leb (a + k + 1) (r.base + r.size) (omega arith))))
    (λ g. or_right (covers (a + k) 1 r) _ (covered_each rs a n k g l))
    (or_cases (covers a n r) (list_any (covers a n) rs) h)

pub among_each : (rs : List Region) (a n : ℕ) → IsTrue (is_in_one_region rs a n) → (k : ℕ) → k < n
    → among (a + k) (addresses rs) ≡ true
among_each rs a n h k l =
    among_addresses rs (a + k) ∙ ⊎_elim (λ e. (let z = eqb-true n 0 e in absurd (omega arith)))
    (λ e. covered_each rs a n k e l) (or_cases (eqb n 0) (list_any (covers a n) rs) h)

-- a segment's file bytes, all of them in the file
file_bytes_at : (file : List ℕ) (at : LoadAt) (s : Segment) (q : ℕ) → segment_fills at q s ≡ true
    → get_or (file_bytes file s) (q - load_address at s) 0 ≡ segment_byte file at s q
file_bytes_at file at s q f =
    let p = and_parts (leb (load_address at s) q) _ f in
    let l = leb-true (load_address at s) q p.0 in
    let u = ltb-true q (load_address at s + s.filesz) p.1 in
    get_or-take s.filesz (drop s.offset file) (q - load_address at s) 0 (omega arith)
    ∙ get_or-drop s.offset file (q - load_address at s) 0

length-file_bytes : (file : List ℕ) (s : Segment) → in_file (length file) s ≡ true
    → length (file_bytes file s) ≡ s.filesz
length-file_bytes file s h =
    let n = length-drop s.offset file in
    let room : s.filesz ≤ length (drop s.offset file) = elim (ltb 0 s.filesz) as
    (λ b. ltb 0 s.filesz ≡ b → s.filesz ≤ length (drop s.offset file)) [
      | true ↦ λ e. (let b = in_file_bounds (length file) s h (ltb-true 0 s.filesz e) in omega arith)
      | false ↦ λ e. (let b = ltb-false 0 s.filesz e in omega arith)
    ] refl in
    length-take-le s.filesz (drop s.offset file) room

-- the opening memory of one segment more is that of those before it, with its bytes put
pub opening_memory_more : (rs : List Region) (file : List ℕ) (at : LoadAt) (ss : List Segment) (i : ℕ) (d : Segment)
    → any_segments_overlap at ss ≡ false → i < length ss
    → IsTrue (is_in_one_region rs (load_address at (get_or ss i d)) (get_or ss i d).filesz)
    → in_file (length file) (get_or ss i d) ≡ true
    → initial_memory rs (take (i + 1) ss) file at ≡ with_bytes_written (initial_memory rs (take i ss) file at)
    (load_address at (get_or ss i d)) (file_bytes file (get_or ss i d))
unfolding initial_memory
opening_memory_more rs file at ss i d e l one within =
    let s = get_or ss i d in
    let start = load_address at s in
    let n = length-file_bytes file s within in
    tabulate-put (addresses rs) (initial_byte (take i ss) file at) (initial_byte (take (i + 1) ss) file at) start
    (file_bytes file s)
    (λ k less. among_each rs start s.filesz one k (omega arith))
    (λ q m. opening_byte_more at q file ss i d e l
    ∙ elim (segment_fills at q s) as (λ b. segment_fills at q s ≡ b
    → cond b (segment_byte file at s q) (initial_byte (take i ss) file at q) ≡ cond b
    (get_or (file_bytes file s) (q - start) 0) (initial_byte (take i ss) file at q)) [
      | true ↦ λ f. sym (file_bytes_at file at s q f)
      | false ↦ λ f. refl
    ] refl
    ∙ ap (λ k. cond (has start k q) (get_or (file_bytes file s) (q - start) 0) (initial_byte (take i ss) file at q))
    (sym n))
