-- Amounts with those of one code, or one function, more.
use Rattle.std.proofs.Common.{◌≡◌, ◌∙◌, ◌+◌, ◌%◌, ◌^◌, ◌<◌, ◌≤◌, ◌++◌, ℕ, List, [], ◌∷◌, Some, drop, get_or, length, take, map, sym, ap, subst, arith}
use Rattle.std.specs.List.{flat_map}
use Rattle.std.proofs.lemmas.Grind.{flat_map-append}
use Rattle.std.proofs.lemmas.List.{append-nil, length-append, map-append, take-append-drop, take_more}
use Rattle.std.proofs.lemmas.List.Concat.{flat_map-cons}
use Rattle.std.proofs.lemmas.List.Sums.{sum_by-append, sum_by-cons}
use Rattle.rv_elf.specs.declared.function.Function.{Function}
use Rattle.rv_elf.specs.Functions.{FunctionView}
use Rattle.rv_cover_view.specs.Functions.{address_of, bytes_of, code_bytes, view_of_function}
use Rattle.rv_count_tables.specs.declared.table.AddressCounts.{AddressCounts}
use Rattle.rv_counting.specs.declared_code.Code.{Code}
use Rattle.rv_counting.specs.Code.{size_of_code}
use Rattle.rv_cover_view.specs.declared.totals.CodeTotals.{CodeTotals}
use Rattle.rv_cover_view.specs.Codes.{AddressedCode, codes_from, codes_of, first_code}
use Rattle.rv_cover_view.specs.Cover.{totals_of_codes}
use Rattle.rv_cover_view.specs.Totals.{FitsIn64Bits, plus}
use Rattle.rv_cover_view.proofs.Codes.{codes_behind, codes_few}
use Rattle.rv_cover_view.proofs.Parts.{amounts_of_parts, codes_fit, part_fits, plus_parts}

module _ (counts : List AddressCounts) (address : ℕ) (bytes : List ℕ) (code : Code) where
  abbrev pub end : List AddressedCode
  end = codes_from (length (drop (size_of_code code) bytes)) ((address + size_of_code code) % 0x1_0000_0000) (drop (size_of_code code) bytes)

  pub one_code_more : (totals one all : CodeTotals) → first_code bytes ≡ Some code
      → plus totals (totals_of_codes counts (codes_from (length bytes) address bytes)) ≡ all
      → one ≡ totals_of_codes counts ((address, code) ∷ [])
      → plus (plus totals one) (totals_of_codes counts end) ≡ all
  one_code_more totals one all e inv is =
      plus_parts totals one (totals_of_codes counts end)
      ∙ ap (λ x. plus totals (plus x (totals_of_codes counts end))) is
      ∙ ap (plus totals) (sym (amounts_of_parts counts ((address, code) ∷ []) end)
      ∙ ap (totals_of_codes counts) (sym (codes_behind address bytes code e)))
      ∙ inv

  pub one_code_fits : (n from : ℕ) (whole : List ℕ) (totals one : CodeTotals) → n < 2 ^ 64 → first_code bytes ≡ Some code
      → plus totals (totals_of_codes counts (codes_from (length bytes) address bytes)) ≡ totals_of_codes counts (codes_from n from whole)
      → one ≡ totals_of_codes counts ((address, code) ∷ []) → FitsIn64Bits (plus totals one)
  one_code_fits n from whole totals one few e inv is =
      let all = codes_from n from whole in
      let l = codes_few n from whole in
      part_fits (plus totals one) (totals_of_codes counts end)
      (subst FitsIn64Bits (sym (one_code_more totals one (totals_of_codes counts all) e inv is))
      (codes_fit counts all (omega (arith, l, few))))

-- ---- functions

codes_bytes : (fs : List FunctionView) → length (flat_map codes_of fs) ≤ code_bytes fs
codes_bytes [] = omega arith
codes_bytes (f ∷ fs) =
    let a = ap length (flat_map-cons codes_of f fs) ∙ length-append (codes_of f) (flat_map codes_of fs) in
    let b = sum_by-cons (λ (g : FunctionView). length (bytes_of g)) f fs in
    let l = codes_few (length (bytes_of f)) (address_of f) (bytes_of f) in
    let h = codes_bytes fs in
    omega (arith, a, b, l, h)

module _ (counts : List AddressCounts) (fs : List Function) (i : ℕ) (d : Function) where
  abbrev pub codes_before : ℕ → List AddressedCode
  codes_before k = flat_map codes_of (map view_of_function (take k fs))

  one_more : i < length fs → codes_before (i + 1) ≡ codes_before i ++ codes_of (view_of_function (get_or fs i d))
  one_more within =
      ap (λ (gs : List Function). flat_map codes_of (map view_of_function gs)) (take_more fs i d within)
      ∙ ap (flat_map codes_of) (map-append view_of_function (take i fs) (get_or fs i d ∷ []))
      ∙ flat_map-append codes_of (map view_of_function (take i fs)) (view_of_function (get_or fs i d) ∷ [])
      ∙ ap (λ ps. codes_before i ++ ps) (flat_map-cons codes_of (view_of_function (get_or fs i d)) [] ∙ append-nil (codes_of (view_of_function (get_or fs i d))))

  pub one_function_more : (totals one : CodeTotals) → i < length fs → totals ≡ totals_of_codes counts (codes_before i)
      → one ≡ totals_of_codes counts (codes_of (view_of_function (get_or fs i d))) → plus totals one ≡ totals_of_codes counts (codes_before (i + 1))
  one_function_more totals one within inv is =
      ap (λ x. plus x one) inv ∙ ap (plus (totals_of_codes counts (codes_before i))) is
      ∙ sym (amounts_of_parts counts (codes_before i) (codes_of (view_of_function (get_or fs i d))))
      ∙ ap (totals_of_codes counts) (sym (one_more within))

  few_before : (k : ℕ) → code_bytes (map view_of_function (take k fs)) ≤ code_bytes (map view_of_function fs)
  few_before k =
      let e = ap (λ (gs : List Function). code_bytes (map view_of_function gs)) (sym (take-append-drop k fs))
      ∙ ap code_bytes (map-append view_of_function (take k fs) (drop k fs))
      ∙ sum_by-append (λ (g : FunctionView). length (bytes_of g)) (map view_of_function (take k fs)) (map view_of_function (drop k fs)) in
      omega (arith, e)

  pub one_function_fits : (totals one : CodeTotals) → i < length fs → code_bytes (map view_of_function fs) < 2 ^ 64
      → totals ≡ totals_of_codes counts (codes_before i) → one ≡ totals_of_codes counts (codes_of (view_of_function (get_or fs i d)))
      → FitsIn64Bits (plus totals one)
  one_function_fits totals one within few inv is =
      let l = codes_bytes (map view_of_function (take (i + 1) fs)) in
      let m = few_before (i + 1) in
      subst FitsIn64Bits (sym (one_function_more totals one within inv is))
      (codes_fit counts (codes_before (i + 1)) (omega (arith, l, m, few)))
