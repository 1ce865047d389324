-- What is behind a key, a string or a value is an end of the text.
use Rattle.std.proofs.Common.{◌≡◌, ◌∙◌, ap, arith, refl, sym, ℕ, zero, suc, ◌+◌, List, [], ◌∷◌, ◌++◌, Bool, true, false, cond}
use Rattle.std.proofs.Common.{Option, Some, None, IfSome, drop, is_some, length, slice_index, take, unwrap_or}
use Rattle.std.specs.Prelude.{◌==◌, ◌&&◌, ◌||◌, encode_utf8, nat_le, nat_lt, option_and_then, option_map}
use Rattle.std.specs.Char.{is_digit}
use Rattle.std.specs.List.{list_all, prefix_len}
use Rattle.std.specs.Str.Parse.{digits_value}
use Rattle.std.proofs.lemmas.List.{drop-drop, drop_all}
use Rattle.toml_parser.specs.Lexical.{Read, backslash, carriage_return, comma, dot, equals, first, hash, is_bare, is_ws, line_feed}
use Rattle.toml_parser.specs.Lexical.{skip_blank, skip_from, skip_lines, skip_turn, skip_ws, split_while, starts_newline}
use Rattle.toml_parser.specs.Strings.{after_piece, at_delims, body, escape, escape_char, hex_escape, hex_len, is_plain, is_scalar}
use Rattle.toml_parser.specs.Strings.{key, key_after, one_line, prepend, quoted, recursion_limit, simple_escape, simple_key}
use Rattle.toml_parser.specs.Strings.{special, starts_string, trim_newline}
use Rattle.toml.specs.Parse.{skip_bom}
use Rattle.rv_list_locations.specs.JobLocations.{after_brackets, after_comma, after_equals, after_word_bytes, text_after_line}
use Rattle.rv_list_locations.specs.JobLocations.{after_string_or_word, after_token, after_value, after_word, depth_after}
use Rattle.rv_list_locations.specs.JobLocations.{is_in_word, is_opening, is_punctuation}

-- ---- ends of texts

abbrev pub IsSuffix : List ℕ → List ℕ → Type 0
IsSuffix text rest = (n : ℕ) × (rest ≡ drop n text)

pub end_whole : (text : List ℕ) → IsSuffix text text
end_whole text = (0, refl)

pub end_drop : (n : ℕ) (text : List ℕ) → IsSuffix text (drop n text)
end_drop n text = (n, refl)

pub end_nil : (text : List ℕ) → IsSuffix text []
end_nil text = (length text, sym (drop_all (length text) text (omega arith)))

pub end_of_end : (text mid rest : List ℕ) → IsSuffix text mid → IsSuffix mid rest → IsSuffix text rest
end_of_end text mid rest (n, one) (m, two) = (n + m, two ∙ ap (drop m) one ∙ drop-drop m n text)

-- ---- steps that may fail

pub if_either : {A : Type 0} (P : A → Type 0) (b : Bool) (x y : A) → P x → P y → P (cond b x y)
if_either P true x y one two = one
if_either P false x y one two = two

pub some_either : {A : Type 0} (P : A → Type 0) (b : Bool) (x y : Option A) → (b ≡ true → IfSome x P) →
    (b ≡ false → IfSome y P) → IfSome (cond b x y) P
some_either P true x y one two = one refl
some_either P false x y one two = two refl

pub some_then : {A B : Type 0} (P : A → Type 0) (Q : B → Type 0) (o : Option A) (f : A → Option B) → IfSome o P →
    ((a : A) → o ≡ Some a → P a → IfSome (f a) Q) → IfSome (option_and_then f o) Q
some_then P Q None f holds next = tt
some_then P Q (Some a) f holds next = next a refl holds

pub some_map : {A B : Type 0} (P : A → Type 0) (Q : B → Type 0) (o : Option A) (f : A → B) → IfSome o P →
    ((a : A) → o ≡ Some a → P a → Q (f a)) → IfSome (option_map f o) Q
some_map P Q None f holds next = tt
some_map P Q (Some a) f holds next = next a refl holds

-- the text behind a value that is read
abbrev pub LeavesEnd : {A : Type 0} → List ℕ → A × List ℕ → Type 0
LeavesEnd text read = IsSuffix text read.1

pub some_weaker : {A : Type 0} (P Q : A → Type 0) (o : Option A) → ((a : A) → P a → Q a) → IfSome o P → IfSome o Q
some_weaker P Q None next holds = tt
some_weaker P Q (Some a) next holds = next a holds

pub some_any : {A : Type 0} (o : Option A) → IfSome o (λ a. Unit {0})
some_any None = tt
some_any (Some a) = tt

-- ---- blanks

pub skip_ws-end : (text : List ℕ) → IsSuffix text (skip_ws text)
unfolding skip_ws
skip_ws-end text = (prefix_len is_ws text, refl)

pub skip_from-end : (comments inside : Bool) (text : List ℕ) → IsSuffix text (skip_from comments inside text)
unfolding skip_from
skip_from-end comments inside [] = (0, refl)
skip_from-end comments inside (c ∷ cs) =
    let turn = skip_turn comments inside c (first cs) in
    let rest = skip_from-end comments (unwrap_or turn false) cs in
    if_either (IsSuffix (c ∷ cs)) (is_some turn) (skip_from comments (unwrap_or turn false) cs) (c ∷ cs)
    (suc rest.0, rest.1) (0, refl)

-- ---- strings

hex_escape-end : (n : ℕ) (text : List ℕ) → IfSome (hex_escape n text) (LeavesEnd text)
unfolding hex_escape
hex_escape-end n text =
    let digits = take n text in
    some_either (LeavesEnd text) ((nat_le n (length text) && list_all (λ c. is_digit c 16) digits) && is_scalar (digits_value 16 digits))
    (Some (digits_value 16 digits, drop n text)) None (λ _. end_drop n text) (λ _. tt)

escape_char-end : (text : List ℕ) → IfSome (escape_char text) (LeavesEnd text)
unfolding escape_char
escape_char-end text =
    let behind = drop 1 text in
    some_either (LeavesEnd text) (nat_lt 0 (hex_len (first text))) (hex_escape (hex_len (first text)) behind)
    (option_map (λ c. (c, behind)) (simple_escape (first text)))
    (λ _. some_weaker (LeavesEnd behind) (LeavesEnd text) (hex_escape (hex_len (first text)) behind)
    (λ read rest. end_of_end text behind read.1 (end_drop 1 text) rest) (hex_escape-end (hex_len (first text)) behind))
    (λ _. some_map (λ c. Unit {0}) (LeavesEnd text) (simple_escape (first text)) (λ c. (c, behind))
    (some_any (simple_escape (first text))) (λ c is any. end_drop 1 text))

escape-end : (multi : Bool) (text : List ℕ) → IfSome (escape multi text) (LeavesEnd text)
unfolding escape
escape-end multi text =
    some_either (LeavesEnd text) (multi && starts_newline (skip_ws text)) (Some ([], skip_lines text))
    (option_map (λ p. (encode_utf8 p.0, p.1)) (escape_char text)) (λ _. skip_from-end false false text)
    (λ _. some_map (LeavesEnd text) (LeavesEnd text) (escape_char text) (λ p. (encode_utf8 p.0, p.1)) (escape_char-end text)
    (λ p is rest. rest))

at_delims-end : (delim : ℕ) (text : List ℕ) → IfSome (at_delims delim text) (LeavesEnd text)
at_delims-end delim text =
    let count = prefix_len (λ c. c == delim) text in
    some_either (LeavesEnd text) (count == 3) (Some (None, drop 3 text))
    (cond (nat_lt count 6) (Some (Some (delim ∷ []), drop 1 text)) None) (λ _. end_drop 3 text)
    (λ _. some_either (LeavesEnd text) (nat_lt count 6) (Some (Some (delim ∷ []), drop 1 text)) None (λ _. end_drop 1 text)
    (λ _. tt))

special-end : (delim : ℕ) (multi : Bool) (text : List ℕ) → IfSome (special delim multi text) (LeavesEnd text)
unfolding special
special-end delim multi text =
    let behind = drop 1 text in
    let escaped : Read (Option (List ℕ)) = option_map (λ p. (Some p.0, p.1)) (escape multi behind) in
    let newline : Read (Option (List ℕ)) = cond (multi && starts_newline text) (Some (Some (first text ∷ []), behind)) None in
    some_either (LeavesEnd text) (first text == delim) (cond multi (at_delims delim text) (Some (None, behind)))
    (cond (first text == backslash) escaped newline)
    (λ _. some_either (LeavesEnd text) multi (at_delims delim text) (Some (None, behind)) (λ _. at_delims-end delim text)
    (λ _. end_drop 1 text))
    (λ _. some_either (LeavesEnd text) (first text == backslash) escaped newline
    (λ _. some_map (LeavesEnd behind) (LeavesEnd text) (escape multi behind) (λ p. (Some p.0, p.1)) (escape-end multi behind)
    (λ p is rest. end_of_end text behind p.1 (end_drop 1 text) rest))
    (λ _. some_either (LeavesEnd text) (multi && starts_newline text) (Some (Some (first text ∷ []), behind)) None
    (λ _. end_drop 1 text) (λ _. tt)))

prepend-end : (text front mid : List ℕ) (read : Read (List ℕ)) → IsSuffix text mid → IfSome read (LeavesEnd mid) →
    IfSome (prepend front read) (LeavesEnd text)
prepend-end text front mid read near holds =
    some_map (LeavesEnd mid) (LeavesEnd text) read (λ p. (front ++ p.0, p.1)) holds
    (λ p is rest. end_of_end text mid p.1 near rest)

after_piece-end : (text : List ℕ) (more : List ℕ → Read (List ℕ)) → ((mid : List ℕ) → IfSome (more mid) (LeavesEnd mid)) →
    (piece : Option (List ℕ)) (mid : List ℕ) → IsSuffix text mid → IfSome (after_piece more piece mid) (LeavesEnd text)
after_piece-end text more ends None mid near = near
after_piece-end text more ends (Some bytes) mid near = prepend-end text bytes mid (more mid) near (ends mid)

body-end : (delim : ℕ) (multi : Bool) (n : ℕ) (text : List ℕ) → IfSome (body delim multi n text) (LeavesEnd text)
unfolding body
body-end delim multi zero text = tt
body-end delim multi (suc n) text =
    let plain : Read (List ℕ) = prepend (first text ∷ []) (body delim multi n (drop 1 text)) in
    let other : Read (List ℕ) = option_and_then (λ p. after_piece (body delim multi n) p.0 p.1) (special delim multi text) in
    some_either (LeavesEnd text) (is_plain delim multi (first text)) plain other
    (λ _. prepend-end text (first text ∷ []) (drop 1 text) (body delim multi n (drop 1 text)) (end_drop 1 text)
    (body-end delim multi n (drop 1 text)))
    (λ _. some_then (LeavesEnd text) (LeavesEnd text) (special delim multi text)
    (λ p. after_piece (body delim multi n) p.0 p.1) (special-end delim multi text)
    (λ p is rest. after_piece-end text (body delim multi n) (body-end delim multi n) p.0 p.1 rest))

one_line-end : (text : List ℕ) → IfSome (one_line text) (LeavesEnd text)
unfolding one_line
one_line-end text =
    some_weaker (LeavesEnd (drop 1 text)) (LeavesEnd text) (body (first text) false (length text) (drop 1 text))
    (λ read rest. end_of_end text (drop 1 text) read.1 (end_drop 1 text) rest)
    (body-end (first text) false (length text) (drop 1 text))

trim_newline-end : (text : List ℕ) → IsSuffix text (trim_newline text)
trim_newline-end text =
    if_either (IsSuffix text) (first text == line_feed) (drop 1 text) (cond (starts_newline text) (drop 2 text) text) (end_drop 1 text)
    (if_either (IsSuffix text) (starts_newline text) (drop 2 text) text (end_drop 2 text) (end_whole text))

pub quoted-end : (text : List ℕ) → IfSome (quoted text) (LeavesEnd text)
unfolding quoted
quoted-end text =
    let inside = trim_newline (drop 3 text) in
    let near = end_of_end text (drop 3 text) inside (end_drop 3 text) (trim_newline-end (drop 3 text)) in
    some_either (LeavesEnd text) (slice_index text 1 == first text && slice_index text 2 == first text)
    (body (first text) true (length text) inside) (one_line text)
    (λ _. some_weaker (LeavesEnd inside) (LeavesEnd text) (body (first text) true (length text) inside)
    (λ read rest. end_of_end text inside read.1 near rest) (body-end (first text) true (length text) inside))
    (λ _. one_line-end text)

-- ---- keys

simple_key-end : (text : List ℕ) → IfSome (simple_key text) (LeavesEnd text)
unfolding simple_key
simple_key-end text =
    let bare : Read (List ℕ) = cond (is_bare (first text)) (Some (split_while is_bare text)) None in
    some_either (LeavesEnd text) (starts_string text) (one_line text) bare (λ _. one_line-end text)
    (λ _. some_either (LeavesEnd text) (is_bare (first text)) (Some (split_while is_bare text)) None
    (λ _. end_drop (prefix_len is_bare text) text) (λ _. tt))

key_after-end : (n : ℕ) (path : List (List ℕ)) (text : List ℕ) → IfSome (key_after n path text) (LeavesEnd text)
unfolding key_after
key_after-end zero path text = tt
key_after-end (suc n) path text =
    some_then (LeavesEnd text) (LeavesEnd text) (simple_key text)
    (λ part. let rest = skip_ws part.1 in
    cond (first rest == dot) (key_after n (path ++ part.0 ∷ []) (skip_ws (drop 1 rest))) (Some ((path, part.0), rest)))
    (simple_key-end text)
    (λ part is behind.
    let rest = skip_ws part.1 in
    let next = skip_ws (drop 1 rest) in
    let near = end_of_end text part.1 rest behind (skip_ws-end part.1) in
    some_either (LeavesEnd text) (first rest == dot) (key_after n (path ++ part.0 ∷ []) next) (Some ((path, part.0), rest))
    (λ _. some_weaker (LeavesEnd next) (LeavesEnd text) (key_after n (path ++ part.0 ∷ []) next)
    (λ read last. end_of_end text next read.1
    (end_of_end text (drop 1 rest) next (end_of_end text rest (drop 1 rest) near (end_drop 1 rest)) (skip_ws-end (drop 1 rest))) last)
    (key_after-end n (path ++ part.0 ∷ []) next))
    (λ _. near))

pub key-end : (text : List ℕ) → IfSome (key text) (LeavesEnd text)
key-end text = key_after-end recursion_limit [] text

-- ---- values

after_word_bytes-end : (text : List ℕ) → IsSuffix text (after_word_bytes text)
after_word_bytes-end [] = (0, refl)
after_word_bytes-end (byte ∷ rest) =
    let more = after_word_bytes-end rest in
    if_either (IsSuffix (byte ∷ rest)) (is_in_word byte (first rest)) (after_word_bytes rest) (byte ∷ rest) (suc more.0, more.1)
    (0, refl)

after_string_or_word-end : (text : List ℕ) → IfSome (after_string_or_word text) (IsSuffix text)
unfolding after_string_or_word after_word
after_string_or_word-end text =
    some_either (IsSuffix text) (starts_string text) (option_map (λ read. read.1) (quoted text))
    (cond (is_in_word (first text) (slice_index text 1)) (Some (after_word_bytes text)) None)
    (λ _. some_map (LeavesEnd text) (IsSuffix text) (quoted text) (λ read. read.1) (quoted-end text) (λ read is rest. rest))
    (λ _. some_either (IsSuffix text) (is_in_word (first text) (slice_index text 1)) (Some (after_word_bytes text)) None
    (λ _. after_word_bytes-end text) (λ _. tt))

after_token-end : (text : List ℕ) → IfSome (after_token text) (IsSuffix text)
unfolding after_token
after_token-end text =
    some_either (IsSuffix text) (is_punctuation (first text)) (Some (drop 1 text)) (after_string_or_word text) (λ _. end_drop 1 text)
    (λ _. after_string_or_word-end text)

after_brackets-end : (n depth : ℕ) (text : List ℕ) → IfSome (after_brackets n depth text) (IsSuffix text)
unfolding after_brackets
after_brackets-end zero depth text = tt
after_brackets-end (suc n) depth text =
    let open_now = depth_after depth (first text) in
    some_then (IsSuffix text) (IsSuffix text) (after_token text)
    (λ rest. cond (open_now == 0) (Some rest) (after_brackets n open_now (skip_blank rest))) (after_token-end text)
    (λ rest is near.
    some_either (IsSuffix text) (open_now == 0) (Some rest) (after_brackets n open_now (skip_blank rest)) (λ _. near)
    (λ _. some_weaker (IsSuffix (skip_blank rest)) (IsSuffix text) (after_brackets n open_now (skip_blank rest))
    (λ last far. end_of_end text (skip_blank rest) last (end_of_end text rest (skip_blank rest) near (skip_from-end true false rest)) far)
    (after_brackets-end n open_now (skip_blank rest))))

pub after_value-end : (text : List ℕ) → IfSome (after_value text) (IsSuffix text)
unfolding after_value
after_value-end text =
    some_either (IsSuffix text) (is_opening (first text)) (after_brackets (suc (length text)) 0 text) (after_string_or_word text)
    (λ _. after_brackets-end (suc (length text)) 0 text) (λ _. after_string_or_word-end text)

-- ---- lines

pub text_after_line-end : (text : List ℕ) → IsSuffix text (text_after_line text)
unfolding text_after_line
text_after_line-end text =
    let rest = skip_ws text in
    if_either (IsSuffix text) (first rest == hash || first rest == line_feed || first rest == carriage_return) (skip_blank rest) []
    (end_of_end text rest (skip_blank rest) (skip_ws-end text) (skip_from-end true false rest)) (end_nil text)

pub after_comma-end : (text : List ℕ) → IsSuffix text (after_comma text)
unfolding after_comma
after_comma-end text =
    let rest = skip_blank text in
    let near = skip_from-end true false text in
    if_either (IsSuffix text) (first rest == comma) (skip_blank (drop 1 rest)) rest
    (end_of_end text (drop 1 rest) (skip_blank (drop 1 rest)) (end_of_end text rest (drop 1 rest) near (end_drop 1 rest))
    (skip_from-end true false (drop 1 rest)))
    near

pub after_equals-end : (text : List ℕ) → IsSuffix text (after_equals text)
unfolding after_equals
after_equals-end text =
    if_either (IsSuffix text) (first text == equals) (skip_ws (drop 1 text)) []
    (end_of_end text (drop 1 text) (skip_ws (drop 1 text)) (end_drop 1 text) (skip_ws-end (drop 1 text))) (end_nil text)

pub skip_bom-end : (text : List ℕ) → IsSuffix text (skip_bom text)
unfolding skip_bom
skip_bom-end text =
    if_either (IsSuffix text) ((first text == 0xEF && slice_index text 1 == 0xBB) && slice_index text 2 == 0xBF) (drop 3 text) text
    (end_drop 3 text) (end_whole text)
