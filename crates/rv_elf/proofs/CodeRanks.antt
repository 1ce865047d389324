-- The nearest candidate for an address, in the symbols of code by their ranks.
use Rattle.std.proofs.Common.{◌≡◌, ◌∙◌, ◌≤◌, ◌<◌, ◌+◌, ◌-◌, ◌*◌, ◌^◌, ◌==◌, ◌&&◌, ℕ, zero, suc, Bool, true, false, cond, List, [], ◌∷◌, ◌++◌, Option, Some, None, Err}
use Rattle.std.proofs.Common.{refl, sym, ap, subst, arith, inl, inr, ltb, leb, drop, get_or, length, option_map}
use Rattle.std.specs.Prelude.{is_some, option_and_then}
use Rattle.std.specs.List.{All, Contains}
use Rattle.std.specs.List.Sorted.{IsNonDecreasingBy, IsPartitionPoint, IsPermutation}
use Rattle.std.specs.Option.{option_map_or}
use Rattle.std.proofs.lemmas.Bool.{and_from, and_parts, cases_lt, eq-eqb, leb-true, le-leb, ltb-true, lt-ltb, ne_eqb, or_cases, or_left, or_right}
use Rattle.std.proofs.lemmas.List.{get_or_default}
use Rattle.std.proofs.lemmas.List.Elements.{All-nil, All-push, All-weaker, Contains-append_left, Contains-push}
use Rattle.std.proofs.lemmas.List.Sorted.{All-permutation, Contains-permutation}
use Rattle.rv_elf.specs.declared.code_symbols.CodeSymbol.{CodeSymbol}
use Rattle.rv_elf.specs.declared.error.ImageError.{ImageError}
use Rattle.rv_elf.specs.declared.image.Image.{Image}
use Rattle.rv_elf.specs.declared.image.Segment.{Segment}
use Rattle.rv_elf.specs.declared.symbol_search.LookupKind.TheVariants.{Code}
use Rattle.rv_elf.specs.declared.symbols.Symbol.{Symbol}
use Rattle.rv_elf.specs.CodeSymbols.{code_symbol, is_named_code, name_and_offset_of, named_in_segment, rank, symbol_count, symbol_at_index, AreCodeSymbols, HaveNames, AgreeWithSymbolAt, IsCodeSymbol, IsSymbolFor}
use Rattle.rv_elf.specs.Rows.{accepted}
use Rattle.rv_elf.specs.Sections.{text_before_zero}
use Rattle.rv_elf.specs.Symbols.{symbol_and_string_bytes, symbol_tables_check}
use Rattle.rv_elf.specs.SymbolSearch.{are_in_one_segment, candidates, has_section, has_usable_name, is_candidate, is_function, is_preferred_to, is_object, is_source_name, may_be_code, name_and_offset, nearest_candidate, precedence, segment_contains_address, symbol_at, symbol_name}
use Rattle.rv_elf.proofs.Ranking.{below_three, is_ranked, nearest_below, nearest_more, rank_by_steps}
use Rattle.rv_elf.proofs.CurrentVerdict.{by_nearest, no_tables}

-- ---- ranks

ranks_above : (a b j k : ℕ) → a < b → 0x1000_0000 * a + (0x1000_0000 - 1 - j) ≤ 0x1000_0000 * b + (0x1000_0000 - 1 - k)
ranks_above a b j k l = omega arith

ranks_first : (a b j k : ℕ) → a ≤ b → j ≤ k → 0x1000_0000 * a + (0x1000_0000 - 1 - k) ≤ 0x1000_0000 * b + (0x1000_0000 - 1 - j)
ranks_first a b j k l m = omega arith

one_index : (a b j k : ℕ) → j < 0x1000_0000 → k < 0x1000_0000
    → 0x1000_0000 * a + (0x1000_0000 - 1 - j) ≤ 0x1000_0000 * b + (0x1000_0000 - 1 - k)
    → 0x1000_0000 * b + (0x1000_0000 - 1 - k) ≤ 0x1000_0000 * a + (0x1000_0000 - 1 - j) → j ≡ k
one_index a b j k x y l m = omega arith

values_rise : (v w p q j k : ℕ) → p < 3 → q < 3
    → 0x1000_0000 * (3 * v + p) + (0x1000_0000 - 1 - j) ≤ 0x1000_0000 * (3 * w + q) + (0x1000_0000 - 1 - k) → v ≤ w
values_rise v w p q j k x y l = omega arith

not_less : (x : ℕ) → x ≤ x
not_less x = omega arith

both_le : (x y z : ℕ) → x ≤ y → y ≤ z → x ≤ z
both_le x y z l m = omega arith

few_kinds : (s : Symbol) → precedence s < 3
few_kinds s = below_three (is_function s) (is_object s)

-- ranks rise as values do
rank_rises : (j k : ℕ) (s t : Symbol) → rank j s ≤ rank k t → s.value ≤ t.value
rank_rises j k s t l = values_rise s.value t.value (precedence s) (precedence t) j k (few_kinds s) (few_kinds t) l

-- ---- the best of the first symbols that pass

module _ (p : Symbol → Bool) (f : ℕ → Symbol) where
  -- none passes, or a symbol does that no other one has a greater rank than
  abbrev pub IsBest : ℕ → Option Symbol → Type 0
  IsBest n None = (k : ℕ) → k < n → p (f k) ≡ false
  IsBest n (Some s) = (j : ℕ) × (j < n) × (f j ≡ s) × (p s ≡ true) × ((k : ℕ) → k < n → p (f k) ≡ true → rank k (f k) ≤ rank j s)

  same_or_below : (k n : ℕ) → k < n + 1 → (n ≤ k) → k ≡ n
  same_or_below k n l m = omega arith

  first_best : (n : ℕ) → IsBest n None → IsBest (n + 1) (cond (true && p (f n)) (Some (f n)) None)
  first_best n h = elim (p (f n)) as (λ b. p (f n) ≡ b → IsBest (n + 1) (cond b (Some (f n)) None)) [
    | true ↦ λ e. (
      n,
      omega arith,
      refl,
      e,
      λ k within passes. elim (cases_lt k n) [
        | inl before ↦ absurd (let fails = h k before in cc)
        | inr behind ↦ let same : k ≡ n = same_or_below k n within behind in
            subst (λ m. rank m (f m) ≤ rank n (f n)) (sym same) (not_less (rank n (f n)))
      ],
    )
    | false ↦ λ e. λ k within. elim (cases_lt k n) [
      | inl before ↦ h k before
      | inr behind ↦ ap (λ m. p (f m)) (same_or_below k n within behind) ∙ e
    ]
  ] refl

  next_best : (n : ℕ) (s : Symbol) → IsBest n (Some s) → IsBest (n + 1) (cond (is_preferred_to (f n) s && p (f n)) (Some (f n)) (Some s))
  next_best n s h = elim (is_preferred_to (f n) s && p (f n)) as (λ b. (is_preferred_to (f n) s && p (f n)) ≡ b → IsBest (n + 1) (cond b (Some (f n)) (Some s))) [
    | true ↦ λ e. let parts = and_parts (is_preferred_to (f n) s) (p (f n)) e in
        let above = ranks_above (rank_by_steps s) (rank_by_steps (f n)) h.0 n
        (ltb-true (rank_by_steps s) (rank_by_steps (f n)) (sym (is_ranked (f n) s) ∙ parts.0)) in (
          n,
          omega arith,
          refl,
          parts.1,
          λ k within passes. elim (cases_lt k n) [
            | inl before ↦ both_le (rank k (f k)) (rank h.0 s) (rank n (f n)) (h.4 k before passes) above
            | inr behind ↦ let same : k ≡ n = same_or_below k n within behind in
                subst (λ m. rank m (f m) ≤ rank n (f n)) (sym same) (not_less (rank n (f n)))
          ],
        )
    | false ↦ λ e. (
      h.0,
      (let l = h.1 in omega (arith, l)),
      h.2,
      h.3,
      λ k within passes. elim (cases_lt k n) [
        | inl before ↦ h.4 k before passes
        | inr behind ↦ let same : k ≡ n = same_or_below k n within behind in
            elim (cases_lt (rank_by_steps s) (rank_by_steps (f n))) [
              | inl less ↦
                  let nearer = is_ranked (f n) s ∙ lt-ltb (rank_by_steps s) (rank_by_steps (f n)) less in
                  let both = and_from (is_preferred_to (f n) s) (p (f n)) nearer (sym (ap (λ m. p (f m)) same) ∙ passes) in
                  absurd (cc)
              | inr more ↦ subst (λ m. rank m (f m) ≤ rank h.0 s) (sym same)
                  (ranks_first (rank_by_steps (f n)) (rank_by_steps s) h.0 n more (let l = h.1 in omega (arith, l)))
            ]
      ],
    )
  ] refl

  one_more_best : (n : ℕ) (o : Option Symbol) → IsBest n o
      → IsBest (n + 1) (cond (option_map_or (is_preferred_to (f n)) o true && p (f n)) (Some (f n)) o)
  one_more_best n None h = first_best n h
  one_more_best n (Some s) h = next_best n s h

  none_of_nothing : nearest_below p f 0 ≡ None
  unfolding nearest_candidate
  none_of_nothing = refl

  pub nearest_is_best : (n : ℕ) → IsBest n (nearest_below p f n)
  nearest_is_best zero = subst (λ (o : Option Symbol). IsBest 0 o) (sym none_of_nothing) (λ k l. absurd (omega (arith, l)))
  nearest_is_best (suc m) =
      let next : m + 1 ≡ suc m = omega arith in
      subst (λ n. IsBest n (nearest_below p f n)) next
      (subst (λ (o : Option Symbol). IsBest (m + 1) o) (sym (nearest_more p f m))
      (one_more_best m (nearest_below p f m) (nearest_is_best m)))

  -- where none passes, it is none
  pub none_best : (n : ℕ) (o : Option Symbol) → IsBest n o → ((k : ℕ) → k < n → p (f k) ≡ true → ⊥) → o ≡ None
  none_best n None h fails = refl
  none_best n (Some s) h fails = absurd (fails h.0 h.1 (ap p h.2 ∙ h.3))

  -- the one that no other has a greater rank than
  pub this_best : (n : ℕ) → n ≤ 0x1000_0000 → (o : Option Symbol) → IsBest n o → (k : ℕ) → k < n → p (f k) ≡ true
      → ((l : ℕ) → l < n → p (f l) ≡ true → rank l (f l) ≤ rank k (f k)) → o ≡ Some (f k)
  this_best n few None h k within passes best = absurd (let fails = h k within in cc)
  this_best n few (Some s) h k within passes best =
      let j = h.0 in
      let under = h.1 in
      let above = h.4 k within passes in
      let below = subst (λ (t : Symbol). rank j t ≤ rank k (f k)) h.2 (best j h.1 (ap p h.2 ∙ h.3)) in
      let same : k ≡ j = one_index (rank_by_steps (f k)) (rank_by_steps s) k j (omega (arith, within, few)) (omega (arith, under, few)) above below in
      ap (λ t. Some t) (sym h.2 ∙ sym (ap f same))

-- ---- candidates

parts_of_five : (a b c d e : Bool) → a && (b && (c && (d && e))) ≡ true → ((a && (b && d)) ≡ true) × (c ≡ true) × (e ≡ true)
parts_of_five true true true true true h = (refl, refl, refl)
parts_of_five true true true true false h = cc
parts_of_five true true true false e h = cc
parts_of_five true true false d e h = cc
parts_of_five true false c d e h = cc
parts_of_five false b c d e h = cc

five_from_parts : (a b c d e : Bool) → (a && (b && d)) ≡ true → c ≡ true → e ≡ true → a && (b && (c && (d && e))) ≡ true
five_from_parts true true true true true h i j = refl
five_from_parts true true true true false h i j = cc
five_from_parts true true true false e h i j = cc
five_from_parts true true false d e h i j = cc
five_from_parts true false c d e h i j = cc
five_from_parts false b c d e h i j = cc

holds_between : (segment : Segment) (low high addr : ℕ) → low ≤ high → high ≤ addr
    → segment_contains_address low segment && segment_contains_address addr segment ≡ true
    → segment_contains_address high segment && segment_contains_address addr segment ≡ true
holds_between segment low high addr l m h =
    let both = and_parts (segment_contains_address low segment) (segment_contains_address addr segment) h in
    let of_low = and_parts (leb segment.vaddr low) (ltb low (segment.vaddr + segment.memsz)) both.0 in
    let of_addr = and_parts (leb segment.vaddr addr) (ltb addr (segment.vaddr + segment.memsz)) both.1 in
    let begin = leb-true segment.vaddr low of_low.0 in
    let end = ltb-true addr (segment.vaddr + segment.memsz) of_addr.1 in
    and_from (segment_contains_address high segment) (segment_contains_address addr segment)
    (and_from (leb segment.vaddr high) (ltb high (segment.vaddr + segment.memsz))
    (le-leb segment.vaddr high (omega (arith, l, begin)))
    (lt-ltb high (segment.vaddr + segment.memsz) (omega (arith, m, end)))) both.1

-- what is in one segment with a higher address is there with each one between
one_segment_between : (segments : List Segment) (low high addr : ℕ) → low ≤ high → high ≤ addr
    → are_in_one_segment segments low addr ≡ true → are_in_one_segment segments high addr ≡ true
one_segment_between [] low high addr l m h = h
one_segment_between (s ∷ ss) low high addr l m h =
    let here : ℕ → Bool = λ a. segment_contains_address a s && segment_contains_address addr s in
    elim (or_cases (here low) (are_in_one_segment ss low addr) h) [
      | inl first ↦ or_left (here high) (are_in_one_segment ss high addr) (holds_between s low high addr l m first)
      | inr later ↦ or_right (here high) (are_in_one_segment ss high addr) (one_segment_between ss low high addr l m later)
    ]

-- ---- the symbols of a table

carry_le : (x y u v : ℕ) → x ≡ u → y ≡ v → x ≤ y → u ≤ v
carry_le x y u v e f l = omega (arith, e, f, l)

named_text : (o : Option (List ℕ)) → option_map_or is_source_name o false ≡ true → is_some o ≡ true
named_text None e = e
named_text (Some t) e = refl

module _ (table strings : List ℕ) where
  wider : (n : ℕ) (s : CodeSymbol) → IsCodeSymbol table strings n s → IsCodeSymbol table strings (n + 1) s
  wider n s h = record { index = h.index; within = (let l = h.within in omega (arith, l)); code = h.code; is = h.is }

  pub none_yet : (es : List CodeSymbol) → es ≡ [] → AreCodeSymbols table strings 0 es
  none_yet es e = record {
    sound = subst (λ (l : List CodeSymbol). All (IsCodeSymbol table strings 0) l) (sym e) (All-nil (IsCodeSymbol table strings 0));
    complete = λ k l h. absurd (omega (arith, l));
  }

  module _ (n : ℕ) (es : List CodeSymbol) (are : AreCodeSymbols table strings n es) where
    -- one more symbol that may stand for code
    pub with_symbol : (s : Symbol) → s ≡ symbol_at_index table n → is_named_code strings s ≡ true
        → (longer : List CodeSymbol) → longer ≡ es ++ code_symbol n s ∷ [] → AreCodeSymbols table strings (n + 1) longer
    with_symbol s same named longer more =
        let this : CodeSymbol = code_symbol n (symbol_at_index table n) in
        let code = sym (ap (is_named_code strings) same) ∙ named in
        let pushed : longer ≡ es ++ this ∷ [] = more ∙ ap (λ t. es ++ code_symbol n t ∷ []) same in
        subst (λ (l : List CodeSymbol). AreCodeSymbols table strings (n + 1) l) (sym pushed) (record {
          sound = All-push (IsCodeSymbol table strings (n + 1)) es this
              (All-weaker (IsCodeSymbol table strings n) (IsCodeSymbol table strings (n + 1)) (wider n) es are.sound)
              (record { index = n; within = omega arith; code = code; is = refl });
          complete = λ k within h. elim (cases_lt k n) [
            | inl before ↦ Contains-append_left es (this ∷ []) (code_symbol k (symbol_at_index table k)) (are.complete k before h)
            | inr behind ↦ let last : k ≡ n = omega (arith, within) in
                subst (λ m. Contains (es ++ this ∷ []) (code_symbol m (symbol_at_index table m))) (sym last) (Contains-push es this)
          ];
        })

    -- one more that may not
    pub without_symbol : (s : Symbol) → s ≡ symbol_at_index table n → is_named_code strings s ≡ false
        → AreCodeSymbols table strings (n + 1) es
    without_symbol s same other = record {
      sound = All-weaker (IsCodeSymbol table strings n) (IsCodeSymbol table strings (n + 1)) (wider n) es are.sound;
      complete = λ k within h. elim (cases_lt k n) [
        | inl before ↦ are.complete k before h
        | inr behind ↦ let last : k ≡ n = omega (arith, within) in
            absurd (let fails = ap (λ m. is_named_code strings (symbol_at_index table m)) last
            ∙ sym (ap (is_named_code strings) same) ∙ other in cc)
      ];
    }

    -- in another order they are the same
    pub in_order : (sorted : List CodeSymbol) → IsPermutation es sorted → AreCodeSymbols table strings n sorted
    in_order sorted moved = record {
      sound = All-permutation (IsCodeSymbol table strings n) es sorted moved are.sound;
      complete = λ k within h. Contains-permutation es sorted (code_symbol k (symbol_at_index table k)) moved (are.complete k within h);
    }

    pub all_named : HaveNames strings es
    all_named i d lt =
        let at = are.sound i d lt in
        let s = symbol_at_index table at.index in
        let section = (and_parts (may_be_code s) (has_section s && has_usable_name strings s) at.code).1 in
        let usable = (and_parts (has_section s) (has_usable_name strings s) section).1 in
        ap (λ (e : CodeSymbol). is_some (text_before_zero (drop e.name strings))) at.is ∙ named_text (symbol_name strings s) usable

    module _ (rising : IsNonDecreasingBy (λ s. s.rank) es) where
      pub values_in_order : IsNonDecreasingBy (λ s. s.value) es
      values_in_order i j d le lt =
          let a = are.sound i d (omega (arith, le, lt)) in
          let b = are.sound j d lt in
          let ranks = carry_le (get_or es i d).rank (get_or es j d).rank
          (rank a.index (symbol_at_index table a.index)) (rank b.index (symbol_at_index table b.index))
          (ap (λ (e : CodeSymbol). e.rank) a.is) (ap (λ (e : CodeSymbol). e.rank) b.is) (rising i j d le lt) in
          carry_le (symbol_at_index table a.index).value (symbol_at_index table b.index).value
          (get_or es i d).value (get_or es j d).value
          (sym (ap (λ (e : CodeSymbol). e.value) a.is)) (sym (ap (λ (e : CodeSymbol). e.value) b.is))
          (rank_rises a.index b.index (symbol_at_index table a.index) (symbol_at_index table b.index) ranks)

-- ---- the last that is not above an address

module _ (segments : List Segment) (table strings : List ℕ) (addr : ℕ) (es : List CodeSymbol)
    (are : AreCodeSymbols table strings (symbol_count table) es) (rising : IsNonDecreasingBy (λ s. s.rank) es)
    (few : symbol_count table ≤ 0x1000_0000) (above : ℕ) (d : CodeSymbol) (bound : above ≤ length es)
    (point : IsPartitionPoint (λ s. leb s.value addr ≡ true) (λ s. leb s.value addr ≡ false) es above) where
  abbrev passes : Symbol → Bool
  passes s = is_candidate Code segments strings addr s

  abbrev nearest : Option Symbol
  nearest = nearest_candidate (candidates Code segments strings addr table)

  best : IsBest passes (symbol_at_index table) (symbol_count table) nearest
  best = nearest_is_best passes (symbol_at_index table) (symbol_count table)

  -- a candidate is among those that are not above the address
  candidate_at : (k : ℕ) → k < symbol_count table → passes (symbol_at_index table k) ≡ true
      → (i : ℕ) × (i < above) × (get_or es i d ≡ code_symbol k (symbol_at_index table k))
  candidate_at k within h =
      let s = symbol_at_index table k in
      let parts = parts_of_five (may_be_code s) (has_section s) (leb s.value addr) (has_usable_name strings s)
      (are_in_one_segment segments s.value addr) h in
      let at = are.complete k within parts.0 in
      let is = get_or_default es at.0 d (code_symbol k s) at.1 ∙ at.2 in
      elim (cases_lt at.0 above) [
        | inl before ↦ (at.0, before, is)
        | inr behind ↦ absurd (let fails = sym (ap (λ (e : CodeSymbol). leb e.value addr) is) ∙ point.1 at.0 d behind at.1 in
            let holds = parts.1 in cc)
      ]

  none_below : above ≡ 0 → nearest ≡ None
  none_below e = none_best passes (symbol_at_index table) (symbol_count table) nearest best
      (λ k within h. let l = (candidate_at k within h).1 in omega (arith, l, e))

  module _ (some : 0 < above) where
    abbrev last : CodeSymbol
    last = get_or es (above - 1) d

    of_last : IsCodeSymbol table strings (symbol_count table) last
    of_last = are.sound (above - 1) d (omega arith)

    abbrev symbol : Symbol
    symbol = symbol_at_index table of_last.index

    last_is : last ≡ code_symbol of_last.index symbol
    last_is = of_last.is

    none_ranks_above : (k : ℕ) → k < symbol_count table → passes (symbol_at_index table k) ≡ true
        → rank k (symbol_at_index table k) ≤ rank of_last.index symbol
    none_ranks_above k within h =
        let at = candidate_at k within h in
        let before = at.1 in
        carry_le (get_or es at.0 d).rank last.rank (rank k (symbol_at_index table k)) (rank of_last.index symbol)
        (ap (λ (e : CodeSymbol). e.rank) at.2) (ap (λ (e : CodeSymbol). e.rank) last_is)
        (rising at.0 (above - 1) d (omega (arith, before)) (omega arith))

    not_above : leb symbol.value addr ≡ true
    not_above = sym (ap (λ (e : CodeSymbol). leb e.value addr) last_is) ∙ point.0 (above - 1) d (omega arith) (omega arith)

    in_segment : are_in_one_segment segments symbol.value addr ≡ true → nearest ≡ Some symbol
    in_segment h = this_best passes (symbol_at_index table) (symbol_count table) few nearest best of_last.index of_last.within
        (five_from_parts (may_be_code symbol) (has_section symbol) (leb symbol.value addr) (has_usable_name strings symbol)
        (are_in_one_segment segments symbol.value addr) of_last.code not_above h) none_ranks_above

    in_no_segment : are_in_one_segment segments symbol.value addr ≡ false → nearest ≡ None
    in_no_segment apart = none_best passes (symbol_at_index table) (symbol_count table) nearest best (λ k within h.
        let s = symbol_at_index table k in
        let parts = parts_of_five (may_be_code s) (has_section s) (leb s.value addr) (has_usable_name strings s)
        (are_in_one_segment segments s.value addr) h in
        let there = one_segment_between segments s.value symbol.value addr
        (rank_rises k of_last.index s symbol (none_ranks_above k within h)) (leb-true symbol.value addr not_above) parts.2 in cc)

    by_last : option_and_then (name_and_offset strings addr) nearest ≡ named_in_segment segments strings addr last
    by_last =
        let answer : Option Symbol → Option (List ℕ × ℕ) = option_and_then (name_and_offset strings addr) in
        (elim (are_in_one_segment segments symbol.value addr) as (λ b. are_in_one_segment segments symbol.value addr ≡ b
        → answer nearest ≡ cond b (name_and_offset strings addr symbol) None) [
          | true ↦ λ e. ap answer (in_segment e)
          | false ↦ λ e. ap answer (in_no_segment e)
        ] refl)
        ∙ sym (ap (named_in_segment segments strings addr) last_is)

  pub by_partition_point : option_and_then (name_and_offset strings addr) nearest
      ≡ cond (above == 0) None (named_in_segment segments strings addr (get_or es (above - 1) d))
  by_partition_point = elim (cases_lt 0 above) [
    | inl some ↦ by_last some ∙ sym (ap (λ b. cond b None (named_in_segment segments strings addr (get_or es (above - 1) d)))
        (ne_eqb above 0 (λ e. omega (arith, e, some))))
    | inr none ↦ let e : above ≡ 0 = omega (arith, none) in
        ap (option_and_then (name_and_offset strings addr)) (none_below e)
        ∙ sym (ap (λ b. cond b None (named_in_segment segments strings addr (get_or es (above - 1) d))) (eq-eqb above 0 e))
  ]

-- ---- the symbols of a file

module _ (image : Image) (file strings : List ℕ) (es : List CodeSymbol) where
  -- where the tables are refused there are none
  pub find_nothing : (w : ImageError) → symbol_tables_check file ≡ Err w → es ≡ [] → AgreeWithSymbolAt image file strings es
  find_nothing w e empty addr above d bound point =
      let long : length es ≡ 0 = ap length empty in
      let zero : above ≡ 0 = omega (arith, bound, long) in
      no_tables Code image file addr w e
      ∙ sym (ap (λ b. cond b None (named_in_segment image.segments strings addr (get_or es (above - 1) d))) (eq-eqb above 0 zero))

  pub find_sorted : (table : List ℕ) → symbol_tables_check file ≡ accepted → symbol_and_string_bytes file ≡ Some (table, strings)
      → AreCodeSymbols table strings (symbol_count table) es → IsNonDecreasingBy (λ s. s.rank) es
      → length table < 2 ^ 32 → AgreeWithSymbolAt image file strings es
  find_sorted table good there are rising long addr above d bound point =
      let few : symbol_count table ≤ 0x1000_0000 = omega (arith, long) in
      by_nearest Code image file addr table strings good there image.segments refl
      (nearest_candidate (candidates Code image.segments strings addr table)) refl
      ∙ by_partition_point image.segments table strings addr es are rising few above d bound point

-- ---- one address

module _ (image : Image) (file strings : List ℕ) (es : List CodeSymbol) (agree_with_symbol_at : AgreeWithSymbolAt image file strings es)
    (addr above : ℕ) (d : CodeSymbol) (bound : above ≤ length es)
    (point : IsPartitionPoint (λ s. leb s.value addr ≡ true) (λ s. leb s.value addr ≡ false) es above) where
  pub nothing_below : above ≡ 0 → symbol_at image file addr ≡ None
  nothing_below e = agree_with_symbol_at addr above d bound point
      ∙ ap (λ b. cond b None (named_in_segment image.segments strings addr (get_or es (above - 1) d))) (eq-eqb above 0 e)

  module _ (some : 0 < above) (s : CodeSymbol) (is : s ≡ get_or es (above - 1) d) where
    by_this : symbol_at image file addr ≡ named_in_segment image.segments strings addr s
    by_this = agree_with_symbol_at addr above d bound point
        ∙ ap (λ b. cond b None (named_in_segment image.segments strings addr (get_or es (above - 1) d)))
        (ne_eqb above 0 (λ e. omega (arith, e, some)))
        ∙ sym (ap (named_in_segment image.segments strings addr) is)

    pub in_other_segment : are_in_one_segment image.segments s.value addr ≡ false → symbol_at image file addr ≡ None
    in_other_segment e = by_this ∙ ap (λ b. cond b (name_and_offset_of strings addr s) None) e

    pub in_this_segment : are_in_one_segment image.segments s.value addr ≡ true → HaveNames strings es
        → IsSymbolFor (symbol_at image file addr) strings addr s
    in_this_segment e named = record {
      below = leb-true s.value addr (ap (λ (t : CodeSymbol). leb t.value addr) is ∙ point.0 (above - 1) d (omega arith) (omega (arith, bound)));
      is = by_this ∙ ap (λ b. cond b (name_and_offset_of strings addr s) None) e;
      named = ap (λ (t : CodeSymbol). is_some (text_before_zero (drop t.name strings))) is
          ∙ named (above - 1) d (omega (arith, bound));
    }

module _ (found : Option (List ℕ × ℕ)) (strings : List ℕ) (addr : ℕ) (s : CodeSymbol) (h : IsSymbolFor found strings addr s) where
  pub by_name : (bytes : List ℕ) → bytes ≡ drop s.name strings → (o : Option (List ℕ)) → text_before_zero bytes ≡ o
      → found ≡ option_map (λ name. (name, addr - s.value)) o
  by_name bytes tail o text = h.is ∙ ap (option_map (λ name. (name, addr - s.value))) (sym (ap text_before_zero tail) ∙ text)

  value_back : (v : ℕ) → v ≤ addr → (o : Option (List ℕ)) → is_some o ≡ true
      → Some v ≡ option_map (λ (x : List ℕ × ℕ). addr - x.1) (option_map (λ name. (name, addr - v)) o)
  value_back v l None some = cc
  value_back v l (Some t) some = ap (λ n. Some n) (let back : v ≡ addr - (addr - v) = omega arith in back)

  pub value_of : Some s.value ≡ option_map (λ (x : List ℕ × ℕ). addr - x.1) found
  value_of = value_back s.value h.below (text_before_zero (drop s.name strings)) h.named
      ∙ sym (ap (option_map (λ (x : List ℕ × ℕ). addr - x.1)) h.is)
