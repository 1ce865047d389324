-- The first so many functions, as the program has them.
use Rattle.std.proofs.Common.{◌≡◌, ◌∙◌, ◌==◌, ◌-◌, ◌<◌, ◌∷◌, ◌++◌, [], ℕ, false, List, Option, Some, None, ap, append_assoc, arith, get_or, length, refl, subst, sym}
use Rattle.std.proofs.lemmas.Bool.Decides.{nat_tests}
use Rattle.std.proofs.lemmas.List.{get_or-map, length-map, take-map}
use Rattle.std.proofs.lemmas.List.Elements.{All-take}
use Rattle.rv_profile.specs.Profile.{AreWithin, IsWithin, FunctionCounts, function_counts_of, profiles_of}
use Rattle.rv_profile.specs.Text.{column_header, columns_of, first_or_all, function_lines, functions_text, more_line}
use Rattle.rv_profile.specs.declared.columns.Columns.{Columns}
use Rattle.rv_profile.specs.declared.function.FunctionProfile.{FunctionProfile}
use Rattle.rv_profile.specs.declared.sums.Sums.{Sums}

pub first_profiles : (top : Option ℕ) (fs : List FunctionProfile) → first_or_all top (profiles_of fs) ≡ profiles_of (first_or_all top fs)
first_profiles None fs = refl
first_profiles (Some count) fs = take-map function_counts_of count fs

first_few : (top : Option ℕ) (steps : ℕ) (ps : List FunctionCounts) → AreWithin steps ps → AreWithin steps (first_or_all top ps)
first_few None steps ps within = within
first_few (Some count) steps ps within = All-take (IsWithin steps) count ps within

pub first_within : (top : Option ℕ) (steps : ℕ) (fs : List FunctionProfile) → AreWithin steps (profiles_of fs)
    → AreWithin steps (profiles_of (first_or_all top fs))
first_within top steps fs within = subst (AreWithin steps) (first_profiles top fs) (first_few top steps (profiles_of fs) within)

pub within_there : (steps : ℕ) (fs : List FunctionProfile) (k : ℕ) (d : FunctionProfile) → AreWithin steps (profiles_of fs)
    → k < length fs → IsWithin steps (function_counts_of (get_or fs k d))
within_there steps fs k d within lt =
    let long = length-map fs function_counts_of in
    subst (IsWithin steps) (get_or-map function_counts_of fs k d (function_counts_of d) lt) (within k (function_counts_of d) (omega (arith, long, lt)))

-- the lines of functions, of which there are some
pub functions_shown : (top : Option ℕ) (sums : Sums) (fs : List FunctionProfile) → 0 < length fs
    → functions_text top sums (profiles_of fs)
    ≡ column_header (columns_of sums) ++ function_lines (columns_of sums) sums.steps (profiles_of (first_or_all top fs))
    ++ more_line (length fs - length (first_or_all top fs))
functions_shown top sums [] some = absurd (omega arith)
functions_shown top sums (f ∷ fs) some =
    ap (λ (ps : List FunctionCounts). column_header (columns_of sums) ++ function_lines (columns_of sums) sums.steps ps
    ++ more_line (length (profiles_of (f ∷ fs)) - length ps)) (first_profiles top (f ∷ fs))
    ∙ (λ i. column_header (columns_of sums) ++ function_lines (columns_of sums) sums.steps (profiles_of (first_or_all top (f ∷ fs)))
    ++ more_line (length-map (f ∷ fs) function_counts_of i - length-map (first_or_all top (f ∷ fs)) function_counts_of i))

pub none_shown : (top : Option ℕ) (sums : Sums) (fs : List FunctionProfile) → length fs ≡ 0 → functions_text top sums (profiles_of fs) ≡ []
none_shown top sums [] none = refl
none_shown top sums (f ∷ fs) none = absurd (omega (arith, none))

-- the head, the lines and how many more there are, one behind the other
pub functions_put : (top : Option ℕ) (sums : Sums) (fs all shown : List FunctionProfile) (columns : Columns) (bytes a b c : List ℕ)
    → (length all == 0) ≡ false → columns ≡ columns_of sums → all ≡ fs → shown ≡ first_or_all top fs
    → a ≡ bytes ++ column_header columns → b ≡ a ++ function_lines columns sums.steps (profiles_of shown)
    → c ≡ b ++ more_line (length all - length shown) → c ≡ bytes ++ functions_text top sums (profiles_of fs)
functions_put top sums fs all shown columns bytes a b c some is alls firsts head lines more =
    let h = column_header columns in
    let l = function_lines columns sums.steps (profiles_of shown) in
    let m = more_line (length all - length shown) in
    more ∙ ap (λ (t : List ℕ). t ++ m) (lines ∙ ap (λ (t : List ℕ). t ++ l) head) ∙ ap (λ (t : List ℕ). t ++ m) (append_assoc bytes h l) ∙ append_assoc bytes (h ++ l) m
    ∙ ap (λ (t : List ℕ). bytes ++ t)
    ((λ i. column_header (is i) ++ function_lines (is i) sums.steps (profiles_of (firsts i)) ++ more_line (length (alls i) - length (firsts i)))
    ∙ sym (functions_shown top sums fs (subst (λ (xs : List FunctionProfile). 0 < length xs) alls (not_none (length all) some))))
  where
    not_none : (n : ℕ) → (n == 0) ≡ false → 0 < n
    not_none n is = grind (arith, nat_tests)
