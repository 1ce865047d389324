-- Bytes as XML takes them: piece by piece.
use Rattle.std.proofs.Common.{◌≡◌, ◌∙◌, refl, sym, ap, ℕ, zero, suc, ◌+◌, ◌<◌, List, [], ◌∷◌, ◌++◌}
use Rattle.std.proofs.Common.{Option, Some, None, add-one, append-nil, arith, drop, false, length, ◌/◌, ◌%◌}
use Rattle.std.proofs.Common.{Bool, true, cond, get_or}
use Rattle.std.specs.Prelude.{◌&&◌, slice_get}
use Rattle.std.specs.Char.{encode_utf8, len_utf8}
use Rattle.std.specs.List.{list_all}
use Rattle.std.specs.Str.{IsUtf8, bytes_eq, chars, is_utf8}
use Rattle.std.specs.Cmp.Lexicographic.{same_text}
use Rattle.std.proofs.lemmas.Bool.{and_parts, false_from_ne_true}
use Rattle.std.proofs.lemmas.Grind.{flat_map-append}
use Rattle.std.proofs.lemmas.List.Elements.{All-get_or}
use Rattle.std.proofs.lemmas.List.Folds.{list_all-append}
use Rattle.std.proofs.lemmas.List.Sums.{AllPass-from_list_all}
use Rattle.hex.specs.Hex.{IsBytes, encode_with, lower_digits}
use Rattle.std.proofs.lemmas.Str.{IsUtf8-from_is_utf8, len_utf8_bounds}
use Rattle.rv_text.specs.declared.xml.XmlContext.{XmlContext}
use Rattle.rv_text.specs.declared.xml.XmlContext.TheVariants.{Attribute, Element}
use Rattle.rv_text.specs.Xml.{IsXmlText, after_first_xml_text, character_or_escape, character_text, escape, xml_text_from}
use Rattle.rv_text.specs.Xml.{first_xml_character, first_xml_bytes, first_xml_text, is_xml_character, bytes_after_first, allowed_xml_character}

-- what is not UTF-8 is not by the test
pub is_utf8-false : (bytes : List ℕ) → ¬ (IsUtf8 bytes) → is_utf8 bytes ≡ false
is_utf8-false bytes refused = false_from_ne_true _ (λ is. refused (IsUtf8-from_is_utf8 bytes is))

-- the bytes that are left of a character are passed over
xml_text_from-left : (within : XmlContext) (left : ℕ) (bytes : List ℕ) →
    xml_text_from within left bytes ≡ xml_text_from within 0 (drop left bytes)
unfolding xml_text_from
xml_text_from-left within zero [] = refl
xml_text_from-left within zero (byte ∷ rest) = refl
xml_text_from-left within (suc left) [] = refl
xml_text_from-left within (suc left) (byte ∷ rest) = xml_text_from-left within left rest

-- the piece in front, and what is behind it
pub escaped-front : (within : XmlContext) (bytes : List ℕ) → 0 < length bytes →
    xml_text_from within 0 bytes ≡ first_xml_text within bytes ++ xml_text_from within 0 (after_first_xml_text bytes)
unfolding xml_text_from
escaped-front within [] some = absurd (omega arith)
escaped-front within (byte ∷ rest) some =
    let front = first_xml_character (byte ∷ rest) in
    rw add-one (ap (λ xs. character_or_escape within byte front ++ xs)
    (xml_text_from-left within (bytes_after_first front) rest))

pub escaped-empty : (within : XmlContext) (bytes : List ℕ) → length bytes ≡ 0 → xml_text_from within 0 bytes ≡ []
unfolding xml_text_from
escaped-empty within [] none = refl
escaped-empty within (byte ∷ rest) none = absurd (omega arith)

-- a character has a byte or more
pub bytes_after_first-of : (c : ℕ) → bytes_after_first (Some c) + 1 ≡ len_utf8 c
bytes_after_first-of c = let bounds = len_utf8_bounds c in omega (arith, bounds.0)

-- ---- what stands in a document

text_nil : (within : XmlContext) → IsXmlText within []
text_nil within = record { characters = []; are_xml_characters = refl; written = refl }

text_append : (within : XmlContext) (xs ys : List ℕ) → IsXmlText within xs → IsXmlText within ys →
    IsXmlText within (xs ++ ys)
text_append within xs ys front back = record {
  characters = front.characters ++ back.characters;
  are_xml_characters = list_all-append is_xml_character front.characters back.characters
      ∙ rw (front.are_xml_characters, back.are_xml_characters) refl;
  written = rw (front.written, back.written)
      (sym (flat_map-append (character_text within) front.characters back.characters));
}

-- a character that stands for itself in both places
stands : XmlContext → ℕ → Bool
stands within c = is_xml_character c && bytes_eq (character_text within c) (c ∷ [])

IsCurrentVerdict : XmlContext → ℕ → Type 0
IsCurrentVerdict within c = (is_xml_character c ≡ true) × (character_text within c ≡ c ∷ [])

standing : (within : XmlContext) (c : ℕ) → stands within c ≡ true → IsCurrentVerdict within c
unfolding stands IsCurrentVerdict
standing within c is =
    let parts = and_parts _ _ is in (parts.0, same_text _ _ (sym parts.1))

digits_stand : (within : XmlContext) → list_all (stands within) lower_digits ≡ true
unfolding stands encode_utf8
digits_stand Attribute = refl
digits_stand Element = refl

digit_stands : (within : XmlContext) (k : ℕ) → k < 16 → IsCurrentVerdict within (get_or lower_digits k 0)
digit_stands within k below =
    standing within (get_or lower_digits k 0)
    (All-get_or (λ c. stands within c ≡ true) lower_digits k 0 below
    (AllPass-from_list_all (stands within) lower_digits (digits_stand within)))

text_one : (within : XmlContext) (c : ℕ) → IsCurrentVerdict within c → IsXmlText within (c ∷ [])
unfolding IsCurrentVerdict
text_one within c is = record {
  characters = c ∷ [];
  are_xml_characters = rw is.0 refl;
  written = sym (append-nil (character_text within c) ∙ is.1);
}

backslash_stands : (within : XmlContext) → IsCurrentVerdict within 92
unfolding IsCurrentVerdict encode_utf8
backslash_stands Attribute = (refl, refl)
backslash_stands Element = (refl, refl)

x_stands : (within : XmlContext) → IsCurrentVerdict within 120
unfolding IsCurrentVerdict encode_utf8
x_stands Attribute = (refl, refl)
x_stands Element = (refl, refl)

text_escape : (within : XmlContext) (byte : ℕ) → byte < 256 → IsXmlText within (escape byte)
unfolding encode_with
text_escape within byte below =
    let high = byte / 16 in
    let low = byte % 16 in
    let one = text_one within (get_or lower_digits high 0) (digit_stands within high (omega arith)) in
    let two = text_one within (get_or lower_digits low 0) (digit_stands within low (omega arith)) in
    text_append within (92 ∷ []) (120 ∷ get_or lower_digits high 0 ∷ get_or lower_digits low 0 ∷ [])
    (text_one within 92 (backslash_stands within))
    (text_append within (120 ∷ []) (get_or lower_digits high 0 ∷ get_or lower_digits low 0 ∷ [])
    (text_one within 120 (x_stands within))
    (text_append within (get_or lower_digits high 0 ∷ []) (get_or lower_digits low 0 ∷ []) one two))

text_taken : (within : XmlContext) (byte c : ℕ) (taken : Bool) → is_xml_character c ≡ taken → byte < 256 →
    IsXmlText within (character_or_escape within byte (cond taken (Some c) None))
text_taken within byte c true is below = record {
  characters = c ∷ [];
  are_xml_characters = rw is refl;
  written = sym (append-nil (character_text within c));
}
text_taken within byte c false is below = text_escape within byte below

text_of_front : (within : XmlContext) (byte : ℕ) (utf8 : Bool) (c : Option ℕ) → byte < 256 →
    IsXmlText within (character_or_escape within byte (cond utf8 (allowed_xml_character c) None))
text_of_front within byte false c below = text_escape within byte below
text_of_front within byte true None below = text_escape within byte below
text_of_front within byte true (Some c) below =
    text_taken within byte c (is_xml_character c) refl below

text_front : (within : XmlContext) (byte : ℕ) (bytes : List ℕ) → byte < 256 →
    IsXmlText within (character_or_escape within byte (first_xml_character bytes))
unfolding first_xml_character
text_front within byte bytes below =
    text_of_front within byte (is_utf8 (first_xml_bytes bytes)) (slice_get (chars (first_xml_bytes bytes)) 0) below

pub text_escaped : (within : XmlContext) (left : ℕ) (bytes : List ℕ) → IsBytes bytes →
    IsXmlText within (xml_text_from within left bytes)
unfolding xml_text_from
text_escaped within left [] are = text_nil within
text_escaped within zero (byte ∷ rest) are =
    let front = first_xml_character (byte ∷ rest) in
    text_append within (character_or_escape within byte front) (xml_text_from within (bytes_after_first front) rest)
    (text_front within byte (byte ∷ rest) (are 0))
    (text_escaped within (bytes_after_first front) rest (λ i. are (suc i)))
text_escaped within (suc left) (byte ∷ rest) are = text_escaped within left rest (λ i. are (suc i))
