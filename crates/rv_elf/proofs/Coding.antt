-- The segment that has a symbol's code.
use Rattle.std.proofs.Common.{◌≡◌, ◌∙◌, ◌≤◌, ◌<◌, ◌+◌, ◌-◌, ◌&&◌, ◌++◌, ℕ, Bool, true, false, cond, List, [], ◌∷◌, Option, Some, None, Err, refl, ap, sym, subst, arith, leb, map, option_map, length}
use Rattle.std.specs.Prelude.{is_ok}
use Rattle.std.specs.List.{filter_map, find, list_all, range_with_len}
use Rattle.std.specs.Option.{option_map_or}
use Rattle.std.proofs.lemmas.List.{append-nil}
use Rattle.std.proofs.lemmas.List.Elements.{filter_map-append}
use Rattle.std.proofs.lemmas.List.FromFn.{map-range_with_len_more}
use Rattle.std.proofs.lemmas.Bool.{and_parts, leb-true}
use Rattle.rv_elf.specs.declared.image.Segment.{Segment}
use Rattle.rv_elf.specs.declared.symbols.Symbol.{Symbol}
use Rattle.rv_elf.specs.declared.error.ImageError.{ImageError}
use Rattle.rv_elf.specs.declared.image.Image.{Image}
use Rattle.rv_elf.specs.Functions.{FunctionView, code_of_symbol, function_of_symbol, functions, functions_in, has_bytes_of_symbol, is_code_segment_of, is_executable, is_in_file, is_sized_function, function_view}
use Rattle.rv_elf.specs.Rows.{accepted}
use Rattle.rv_elf.specs.Symbols.{symbol_and_string_bytes, symbol_tables_check}
use Rattle.rv_elf.proofs.Reading.{in_file_bounds}

-- the first that passes is one of the list
found_passes : {X : Type 0} (p q : X → Bool) (xs : List X) (x : X) → find p xs ≡ Some x → list_all q xs ≡ true
    → (p x ≡ true) × (q x ≡ true)
found_passes p q [] x e h = cc
found_passes p q (y ∷ ys) x e h =
    let parts = and_parts (q y) (list_all q ys) h in
    let rest = found_passes p q ys x in
    elim (p y) as (λ b. p y ≡ b → cond b (Some y) (find p ys) ≡ Some x → (p x ≡ true) × (q x ≡ true)) [
      | true ↦ λ k f. let same : y ≡ x = cc in
          (subst (λ z. p z ≡ true) same k, subst (λ z. q z ≡ true) same parts.0)
      | false ↦ λ k f. rest f parts.1
    ] refl e

-- where the bytes of a symbol stand, in its segment and in the file
pub record IsPlaced (n : ℕ) (s : Symbol) (g : Segment) : Type 0 where
  pub above : g.vaddr ≤ s.value
  pub within : g.offset + (s.value - g.vaddr) + s.size ≤ n

placed : (n value size vaddr filesz offset : ℕ) → vaddr ≤ value → value + size ≤ vaddr + filesz → offset + filesz ≤ n
    → offset + (value - vaddr) + size ≤ n
placed n value size vaddr filesz offset a b c = omega arith

some_bytes : (value size vaddr filesz : ℕ) → vaddr ≤ value → value + size ≤ vaddr + filesz → 0 < size → 0 < filesz
some_bytes value size vaddr filesz a b c = omega arith

pub code_is_placed : (n : ℕ) (s : Symbol) (ss : List Segment) (g : Segment) → find (is_code_segment_of s) ss ≡ Some g
    → list_all (is_in_file n) ss ≡ true → 0 < s.size → IsPlaced n s g
code_is_placed n s ss g e h l =
    let found = found_passes (is_code_segment_of s) (is_in_file n) ss g e h in
    let code = (and_parts (is_executable g) (has_bytes_of_symbol s g) found.0).1 in
    let bounds = and_parts (leb g.vaddr s.value) (leb (s.value + s.size) (g.vaddr + g.filesz)) code in
    let above = leb-true g.vaddr s.value bounds.0 in
    let ends = leb-true (s.value + s.size) (g.vaddr + g.filesz) bounds.1 in
    let file = in_file_bounds n g found.1 (some_bytes s.value s.size g.vaddr g.filesz above ends l) in
    record { above = above; within = placed n s.value s.size g.vaddr g.filesz g.offset above ends file }

-- ---- one symbol more

module _ (segments : List Segment) (file strings : List ℕ) (symbol_at : ℕ → Symbol) where
  -- the functions among the first k symbols
  abbrev pub functions_below : ℕ → List FunctionView
  functions_below k = filter_map (function_of_symbol segments file strings) (map symbol_at (range_with_len 0 k))

  one_more : (k : ℕ) → functions_below (k + 1)
      ≡ functions_below k ++ filter_map (function_of_symbol segments file strings) (symbol_at k ∷ [])
  one_more k =
      ap (filter_map (function_of_symbol segments file strings)) (map-range_with_len_more symbol_at 0 k k (omega arith))
      ∙ filter_map-append (function_of_symbol segments file strings) (map symbol_at (range_with_len 0 k)) (symbol_at k ∷ [])

  -- a symbol that is a function with a size gives what it is
  pub with_function : (k : ℕ) (s : Symbol) → s ≡ symbol_at k → (found longer : List FunctionView) → found ≡ functions_below k
      → longer ≡ found ++ filter_map (function_of_symbol segments file strings) (s ∷ []) → longer ≡ functions_below (k + 1)
  with_function k s same found longer inv more =
      more ∙ ap (λ xs. xs ++ filter_map (function_of_symbol segments file strings) (s ∷ [])) inv
      ∙ ap (λ s. functions_below k ++ filter_map (function_of_symbol segments file strings) (s ∷ [])) same ∙ sym (one_more k)

  nothing : (s : Symbol) → is_sized_function strings s ≡ false
      → filter_map (function_of_symbol segments file strings) (s ∷ []) ≡ []
  nothing s e = ap (λ (o : Option FunctionView). filter_map (λ (t : Symbol). o) (s ∷ []))
      (ap (λ b. cond b (option_map (function_view strings s) (code_of_symbol segments file s)) None) e)

  -- another gives nothing
  pub without_function : (k : ℕ) (s : Symbol) → s ≡ symbol_at k → (found : List FunctionView) → found ≡ functions_below k
      → is_sized_function strings s ≡ false → found ≡ functions_below (k + 1)
  without_function k s same found inv e =
      inv ∙ sym (append-nil (functions_below k)) ∙ ap (λ xs. functions_below k ++ xs) (sym (nothing s e))
      ∙ ap (λ s. functions_below k ++ filter_map (function_of_symbol segments file strings) (s ∷ [])) same ∙ sym (one_more k)

-- ---- the functions of a file

module _ (image : Image) (file : List ℕ) where
  pub no_functions : (w : ImageError) → symbol_tables_check file ≡ Err w → functions image file ≡ []
  unfolding functions
  no_functions w e = ap (λ r. cond (is_ok r) (option_map_or (λ t. functions_in image.segments file t.0 t.1)
      (symbol_and_string_bytes file) []) []) e

  pub functions_there : (table strings : List ℕ) → symbol_tables_check file ≡ accepted
      → symbol_and_string_bytes file ≡ Some (table, strings) → (segments : List Segment) → segments ≡ image.segments
      → functions_in segments file table strings ≡ functions image file
  unfolding functions
  functions_there table strings good there segments same =
      ap (λ ss. functions_in ss file table strings) same
      ∙ sym (ap (λ r. cond (is_ok r) (option_map_or (λ t. functions_in image.segments file t.0 t.1)
      (symbol_and_string_bytes file) []) []) good
      ∙ ap (λ (o : Option (List ℕ × List ℕ)). option_map_or (λ t. functions_in image.segments file t.0 t.1) o []) there)
