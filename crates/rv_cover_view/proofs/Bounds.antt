-- How many bytes functions have together.
use Rattle.std.proofs.Common.{◌≡◌, ◌∙◌, ◌+◌, ◌-◌, ◌*◌, ◌/◌, ◌^◌, ◌<◌, ◌≤◌, ◌==◌, ℕ, zero, suc, true, false, cond, List, [], ◌∷◌, Option, Some, None, IfSome, drop, find, length, map, option_and_then, option_map, sum_by, take, refl, ap, arith}
use Rattle.std.specs.Prelude.{is_ok}
use Rattle.std.specs.List.{cons_option, dedup, dedup_from, filter_map}
use Rattle.std.specs.List.Sorted.{IsPermutation}
use Rattle.std.specs.Option.{option_map_or}
use Rattle.std.proofs.lemmas.List.{length-drop}
use Rattle.std.proofs.lemmas.List.FromFn.{length-map-range_with_len}
use Rattle.std.proofs.lemmas.List.Sorted.{sum_by-IsPermutation}
use Rattle.std.proofs.lemmas.List.Sums.{sum_by-cons}
use Rattle.rv_elf.specs.declared.function.Function.{Function}
use Rattle.rv_elf.specs.declared.image.Image.{Image}
use Rattle.rv_elf.specs.declared.image.Segment.{Segment}
use Rattle.rv_elf.specs.Functions.{FunctionView, bytes_in_segment, code_of_symbol, function_of_symbol, functions, functions_in, is_code_segment_of, is_sized_function, function_view}
use Rattle.rv_elf.specs.Sections.{section_bytes, string_table_section, symbol_at_offset, symbol_table_section, symbols_of}
use Rattle.rv_elf.specs.Symbols.{symbol_and_string_bytes, symbol_tables_check, tables_of_section}
use Rattle.rv_cover_view.specs.Functions.{bytes_of, code_bytes, view_of_function}
use Rattle.rv_cover_view.proofs.Once.{is_same, starts}

-- ---- functions that are each once

abbrev size_of : Function → ℕ
size_of f = length f.code.now

bytes_named : (fs : List Function) → code_bytes (map view_of_function fs) ≡ sum_by size_of fs
bytes_named [] = refl
bytes_named (f ∷ fs) =
    let a = sum_by-cons (λ (g : FunctionView). length (bytes_of g)) (view_of_function f) (map view_of_function fs) in
    let b = sum_by-cons size_of f fs in
    let h = bytes_named fs in
    omega (arith, a, b, h)

fewer_from : (k : Function) (fs : List Function) → sum_by size_of (dedup_from (is_same starts) k fs) ≤ size_of k + sum_by size_of fs
fewer_from k [] = let a = sum_by-cons size_of k [] in omega (arith, a)
fewer_from k (f ∷ fs) =
    let b = sum_by-cons size_of f fs in
    elim (starts f == starts k)
    as (λ t. sum_by size_of (cond t (dedup_from (is_same starts) k fs) (k ∷ dedup_from (is_same starts) f fs))
    ≤ size_of k + sum_by size_of (f ∷ fs)) [
      | true ↦ let h = fewer_from k fs in omega (arith, b, h)
      | false ↦
          let h = fewer_from f fs in
          let a = sum_by-cons size_of k (dedup_from (is_same starts) f fs) in
          omega (arith, a, b, h)
    ]

fewer_once : (fs : List Function) → sum_by size_of (dedup (is_same starts) fs) ≤ sum_by size_of fs
fewer_once [] = omega arith
fewer_once (f ∷ fs) = let h = fewer_from f fs in let a = sum_by-cons size_of f fs in omega (arith, a, h)

pub fewer_bytes : (xs ys zs : List Function) → IsPermutation xs ys → zs ≡ dedup (is_same starts) ys
    → code_bytes (map view_of_function zs) ≤ code_bytes (map view_of_function xs)
fewer_bytes xs ys zs same is =
    let a = bytes_named zs ∙ ap (sum_by size_of) is in
    let b = fewer_once ys in
    let c = sum_by-IsPermutation size_of xs ys same in
    let d = bytes_named xs in
    omega (arith, a, b, c, d)

-- ---- those of a file

short_take : (n : ℕ) (xs : List ℕ) → length (take n xs) ≤ length xs
short_take zero xs = omega arith
short_take (suc n) [] = omega arith
short_take (suc n) (x ∷ xs) = let h = short_take n xs in omega (arith, h)

module _ (file : List ℕ) (small : length file ≤ 0x100_0000) where
  part_few : (n m : ℕ) → length (take n (drop m file)) ≤ 0x100_0000
  part_few n m = let a = short_take n (drop m file) in let b = length-drop m file in omega (arith, a, b, small)

  abbrev IsFew : Option FunctionView → Type 0
  IsFew o = IfSome o (λ g. length (bytes_of g) ≤ 0x100_0000)

  one_more : (o : Option FunctionView) (rest : List FunctionView) → IsFew o → code_bytes (cons_option o rest) ≤ 0x100_0000 + code_bytes rest
  one_more None rest h = omega arith
  one_more (Some g) rest h = let a = sum_by-cons (λ (f : FunctionView). length (bytes_of f)) g rest in omega (arith, a, h)

  sum_few : {X : Type 0} (h : X → Option FunctionView) → ((x : X) → IsFew (h x)) → (xs : List X) → code_bytes (filter_map h xs) ≤ length xs * 0x100_0000
  sum_few h few [] = omega arith
  sum_few h few (x ∷ xs) =
      let a = one_more (h x) (filter_map h xs) (few x) in
      let b = sum_few h few xs in
      omega (arith, a, b)

  table_few : (ss : List Segment) (table strings : List ℕ) → length table ≤ 0x100_0000 → code_bytes (functions_in ss file table strings) < 2 ^ 64
  table_few ss table strings l =
      let a = sum_few (function_of_symbol ss file strings)
      (λ s. elim (is_sized_function strings s)
      as (λ b. IsFew (cond b (option_map (function_view strings s) (code_of_symbol ss file s)) None)) [
        | true ↦ elim (find (is_code_segment_of s) ss)
            as (λ o. IsFew (option_map (function_view strings s) (option_map (bytes_in_segment file s) o))) [
              | Some g ↦ part_few s.size (g.offset + (s.value - g.vaddr))
              | None ↦ tt
            ]
        | false ↦ tt
      ])
      (symbols_of table) in
      let b = length-map-range_with_len (λ k. symbol_at_offset table (16 * k)) 0 (length table / 16) in
      omega (arith, a, b, l)

  tables_few : {X : Type 0} (ss : List Segment) (table : List ℕ) (strings : X → List ℕ) (o : Option X) → length table ≤ 0x100_0000
      → code_bytes (option_map_or (λ (t : List ℕ × List ℕ). functions_in ss file t.0 t.1) (option_map (λ x. (table, strings x)) o) []) < 2 ^ 64
  tables_few ss table strings (Some x) l = table_few ss table (strings x) l
  tables_few ss table strings None l = omega arith

  pub functions_few : (image : Image) → code_bytes (functions image file) < 2 ^ 64
  unfolding functions
  functions_few image = elim (is_ok (symbol_tables_check file))
      as (λ b. code_bytes (cond b (option_map_or (λ t. functions_in image.segments file t.0 t.1) (symbol_and_string_bytes file) []) []) < 2 ^ 64) [
        | true ↦ elim (symbol_table_section file)
            as (λ o. code_bytes (option_map_or (λ t. functions_in image.segments file t.0 t.1) (option_and_then (tables_of_section file) o) []) < 2 ^ 64) [
              | Some s ↦ tables_few image.segments (section_bytes file s) (section_bytes file) (string_table_section file s) (part_few s.size s.offset)
              | None ↦ omega arith
            ]
        | false ↦ omega arith
      ]
