-- Texts that are the UTF-8 of characters of XML.
use Rattle.std.proofs.Common.{◌≡◌, ◌∙◌, refl, sym, ℕ, zero, suc, ◌+◌, ◌%◌, ◌^◌, ◌<◌, List, [], ◌∷◌, ◌++◌}
use Rattle.std.proofs.Common.{Bool, true, false, cond, Option, Some, None, IfSome, append-nil, arith, get_or}
use Rattle.std.specs.Prelude.{◌==◌, ◌&&◌, codes, nat_lt}
use Rattle.std.specs.Char.{encode_utf8}
use Rattle.std.specs.Fmt.{decimal}
use Rattle.std.specs.List.{flat_map, list_all, range_with_len}
use Rattle.std.specs.Str.{IsAscii}
use Rattle.std.proofs.lemmas.Bool.{and_parts, ltb-true}
use Rattle.std.proofs.lemmas.Fmt.{decimal_by_steps}
use Rattle.std.proofs.lemmas.List.Elements.{All-get_or}
use Rattle.std.proofs.lemmas.List.Folds.{list_all-append}
use Rattle.std.proofs.lemmas.List.FromFn.{get_or-range_with_len}
use Rattle.std.proofs.lemmas.List.Sums.{AllPass-from_list_all}
use Rattle.std.proofs.lemmas.Str.{encodes-IsAscii, encodes-append}
use Rattle.hex.specs.Hex.{IsBytes}
use Rattle.rv_text.specs.declared.xml.XmlContext.{XmlContext}
use Rattle.rv_text.specs.declared.xml.XmlContext.TheVariants.{Attribute, Element}
use Rattle.rv_text.specs.Xml.{IsXmlCharacters, reference_or_character, character_text, xml_text, is_xml_character}
use Rattle.rv_text.specs.Xml.{character_reference, space_reference}
use Rattle.rv_text.proofs.XmlTexts.{text_escaped}

pub xml_nil : IsXmlCharacters []
xml_nil = record { characters = []; are_xml_characters = refl; written = refl }

pub xml_append : (xs ys : List ℕ) → IsXmlCharacters xs → IsXmlCharacters ys → IsXmlCharacters (xs ++ ys)
xml_append xs ys front back = record {
  characters = front.characters ++ back.characters;
  are_xml_characters = list_all-append is_xml_character front.characters back.characters
      ∙ rw (front.are_xml_characters, back.are_xml_characters) refl;
  written = rw (front.written, back.written) (sym (encodes-append front.characters back.characters));
}

xml_one : (c : ℕ) → is_xml_character c ≡ true → IsXmlCharacters (encode_utf8 c)
xml_one c is = record { characters = c ∷ []; are_xml_characters = rw is refl; written = sym (append-nil (encode_utf8 c)) }

-- ASCII that XML has
abbrev pub is_plain : ℕ → Bool
is_plain c = nat_lt c 128 && is_xml_character c

plain_taken : (text : List ℕ) → list_all is_plain text ≡ true → list_all is_xml_character text ≡ true
plain_taken [] all = refl
plain_taken (c ∷ text) all =
    let parts = and_parts _ _ all in
    let here : is_xml_character c ≡ true = (and_parts (nat_lt c 128) (is_xml_character c) parts.0).1 in
    rw (here, plain_taken text parts.1) refl

plain_ascii : (text : List ℕ) → list_all is_plain text ≡ true → IsAscii text
plain_ascii [] all = λ i. omega arith
plain_ascii (c ∷ text) all = λ i. elim i as (λ k. get_or (c ∷ text) k 0 < 128) [
  | zero ↦ ltb-true c 128 (and_parts _ _ (and_parts _ _ all).0).0
  | suc k ↦ plain_ascii text (and_parts _ _ all).1 k
]

pub xml_plain : (text : List ℕ) → list_all is_plain text ≡ true → IsXmlCharacters text
xml_plain text all = record {
  characters = text;
  are_xml_characters = plain_taken text all;
  written = sym (encodes-IsAscii text (plain_ascii text all));
}

digits_plain : list_all is_plain (range_with_len 48 10) ≡ true
digits_plain = refl

digit_plain : (digit : ℕ) → digit < 10 → is_plain (48 + digit) ≡ true
digit_plain digit below =
    rw (get_or-range_with_len 48 10 digit 0 below) at
    (All-get_or (λ c. is_plain c ≡ true) (range_with_len 48 10) digit 0 below
    (AllPass-from_list_all is_plain (range_with_len 48 10) digits_plain))

xml_digit : (digit : ℕ) → digit < 10 → IsXmlCharacters ((48 + digit) ∷ [])
xml_digit digit below = xml_plain ((48 + digit) ∷ []) (rw (digit_plain digit below) refl)

-- a number's digits
pub xml_decimal : (n : ℕ) → n < 2 ^ 64 → IsXmlCharacters (decimal n)
xml_decimal n fits =
    decimal_by_steps (λ _ digits. IsXmlCharacters digits) xml_digit
    (λ m digits above before. xml_append digits ((48 + m % 10) ∷ []) before (xml_digit (m % 10) (omega arith)))
    n fits

-- ---- escaped bytes

-- what holds of what stands for a character, whichever it is
if_reference : (P : List ℕ → Type 0) (here : Bool) (text : List ℕ) (other : Option (List ℕ)) → P text →
    IfSome other P → IfSome (cond here (Some text) other) P
if_reference P true text other holds others = holds
if_reference P false text other holds others = others

xml_space : (within : XmlContext) (c : ℕ) → IfSome (space_reference within c) IsXmlCharacters
xml_space Attribute c =
    if_reference IsXmlCharacters (c == 0x9) (codes "&#9;") _ (xml_plain (codes "&#9;") refl)
    (if_reference IsXmlCharacters (c == 0xA) (codes "&#10;") None (xml_plain (codes "&#10;") refl) tt)
xml_space Element c = tt

xml_reference : (within : XmlContext) (c : ℕ) → IfSome (character_reference within c) IsXmlCharacters
xml_reference within c =
    let P = IsXmlCharacters in
    if_reference P (c == 60) (codes "&lt;") _ (xml_plain (codes "&lt;") refl)
    (if_reference P (c == 62) (codes "&gt;") _ (xml_plain (codes "&gt;") refl)
    (if_reference P (c == 38) (codes "&amp;") _ (xml_plain (codes "&amp;") refl)
    (if_reference P (c == 34) (codes "&quot;") _ (xml_plain (codes "&quot;") refl)
    (if_reference P (c == 0xD) (codes "&#13;") _ (xml_plain (codes "&#13;") refl) (xml_space within c)))))

by_either : (c : ℕ) (text : Option (List ℕ)) → IfSome text IsXmlCharacters → is_xml_character c ≡ true →
    IsXmlCharacters (reference_or_character text c)
by_either c (Some text) holds taken = holds
by_either c None holds taken = xml_one c taken

xml_texts : (within : XmlContext) (characters : List ℕ) → list_all is_xml_character characters ≡ true →
    IsXmlCharacters (flat_map (character_text within) characters)
xml_texts within [] all = xml_nil
xml_texts within (c ∷ characters) all =
    let parts = and_parts _ _ all in
    xml_append (character_text within c) (flat_map (character_text within) characters)
    (by_either c (character_reference within c) (xml_reference within c) parts.0)
    (xml_texts within characters parts.1)

pub xml_escaped : (within : XmlContext) (bytes : List ℕ) → IsBytes bytes → IsXmlCharacters (xml_text within bytes)
xml_escaped within bytes are =
    let text = text_escaped within 0 bytes are in
    rw text.written (xml_texts within text.characters text.are_xml_characters)
