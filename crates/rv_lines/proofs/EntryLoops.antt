-- Fields and entries read one after the other, as loops do.
use Rattle.std.proofs.Common.{◌≡◌, ◌∙◌, ◌<◌, ◌≤◌, ◌+◌, ◌-◌, ◌||◌, ℕ, suc, Bool, true, false, List, [], ◌∷◌, is_ok, Ok, Err, refl, sym, ap, arith}
use Rattle.std.specs.List.{list_any}
use Rattle.rv_lines.specs.declared.error.UnitError.{UnitError}
use Rattle.rv_lines.specs.declared.forms.Field.{Field}
use Rattle.rv_lines.specs.Reading.{◌>>=◌, Read}
use Rattle.rv_lines.specs.Entries.{Strings, Entry, is_path, field_at, fields_at, with_field, entry_at}
use Rattle.rv_lines.specs.EntriesInside.{path_and_rest, read_fields}

-- ---- the fields of a format

abbrev pub with_first : Field → Read (List Field) → Read (List Field)
with_first field read = read >>= λ others. Ok (field ∷ others.0, others.1)

pub fields_one : (count k : ℕ) (bytes : List ℕ) → k < count
    → fields_at (count - k) bytes ≡ (field_at bytes >>= λ field. with_first field.0 (fields_at (count - (k + 1)) field.1))
unfolding fields_at
fields_one count k bytes lt = let e : count - k ≡ suc (count - (k + 1)) = omega arith in rw e refl

pub fields_none : (count k : ℕ) (bytes : List ℕ) → count ≤ k → fields_at (count - k) bytes ≡ Ok ([], bytes)
unfolding fields_at
fields_none count k bytes le = let e : count - k ≡ 0 = omega arith in rw e refl

or_assoc : (a b c : Bool) → (a || (b || c)) ≡ ((a || b) || c)
or_assoc true b c = refl
or_assoc false b c = refl

rest_with : (before : Bool) (field : Field) (read : Read (List Field)) → path_and_rest before (with_first field read) ≡ path_and_rest (before || is_path field) read
rest_with before field (Ok x) = ap (λ b. Ok (b, x.1)) (or_assoc before (is_path field) (list_any is_path x.0))
rest_with before field (Err e) = refl

or_none : (b : Bool) → (b || false) ≡ b
or_none true = refl
or_none false = refl

pub format_on : (before : Bool) (count k : ℕ) (bytes next : List ℕ) (field : Field) (total : Read Bool) → k < count → field_at bytes ≡ Ok (field, next)
    → path_and_rest before (fields_at (count - k) bytes) ≡ total → path_and_rest (before || is_path field) (fields_at (count - (k + 1)) next) ≡ total
format_on before count k bytes next field total lt h so_far =
    sym (ap (path_and_rest before) (fields_one count k bytes lt ∙ ap (λ r. r >>= λ p. with_first p.0 (fields_at (count - (k + 1)) p.1)) h)
    ∙ rest_with before field (fields_at (count - (k + 1)) next)) ∙ so_far

pub format_ends : (before : Bool) (e : UnitError) (count k : ℕ) (bytes : List ℕ) (total : Read Bool) → k < count → field_at bytes ≡ Err e
    → path_and_rest before (fields_at (count - k) bytes) ≡ total → total ≡ Err e
format_ends before e count k bytes total lt h so_far =
    sym so_far ∙ ap (path_and_rest before) (fields_one count k bytes lt ∙ ap (λ r. r >>= λ p. with_first p.0 (fields_at (count - (k + 1)) p.1)) h)

pub format_done : (before : Bool) (count k : ℕ) (bytes : List ℕ) (total : Read Bool) → count ≤ k
    → path_and_rest before (fields_at (count - k) bytes) ≡ total → total ≡ Ok (before, bytes)
format_done before count k bytes total le so_far = sym so_far ∙ ap (path_and_rest before) (fields_none count k bytes le) ∙ ap (λ b. Ok (b, bytes)) (or_none before)

-- ---- the fields of an entry, along its format

-- what is read from here on, if the format has `left` more fields in `described`
abbrev pub entry_left : Strings → ℕ → List ℕ → Entry → List ℕ → Read Entry
entry_left strings left described entry bytes = entry_at strings (read_fields (fields_at left described)) entry bytes

ok_rest : (field : Field) (read : Read (List Field)) → is_ok (with_first field read) ≡ true → is_ok read ≡ true
ok_rest field (Ok x) h = refl
ok_rest field (Err e) h = h

fields_with : (field : Field) (read : Read (List Field)) → is_ok (with_first field read) ≡ true → read_fields (with_first field read) ≡ field ∷ read_fields read
fields_with field (Ok x) h = refl
fields_with field (Err e) h = cc

-- a field of the format is there
pub field_there : (e : UnitError) (count k : ℕ) (described : List ℕ) → k < count → is_ok (fields_at (count - k) described) ≡ true → field_at described ≡ Err e → ⊥
field_there e count k described lt ok h =
    let bad : is_ok (fields_at (count - k) described) ≡ is_ok {T = List Field × List ℕ} (Err e) = ap is_ok (fields_one count k described lt ∙ ap (λ r. r >>= λ p. with_first p.0 (fields_at (count - (k + 1)) p.1)) h) in
    cc

pub ok_on : (count k : ℕ) (described next : List ℕ) (field : Field) → k < count → is_ok (fields_at (count - k) described) ≡ true → field_at described ≡ Ok (field, next)
    → is_ok (fields_at (count - (k + 1)) next) ≡ true
ok_on count k described next field lt ok h =
    let same : fields_at (count - k) described ≡ with_first field (fields_at (count - (k + 1)) next) = fields_one count k described lt ∙ ap (λ r. r >>= λ p. with_first p.0 (fields_at (count - (k + 1)) p.1)) h in
    ok_rest field (fields_at (count - (k + 1)) next) (sym (ap is_ok same) ∙ ok)

entry_one : (strings : Strings) (count k : ℕ) (described next : List ℕ) (field : Field) (entry : Entry) (bytes : List ℕ) → k < count → is_ok (fields_at (count - k) described) ≡ true
    → field_at described ≡ Ok (field, next)
    → entry_left strings (count - k) described entry bytes ≡ (with_field strings field entry bytes >>= λ more. entry_left strings (count - (k + 1)) next more.0 more.1)
unfolding entry_at
entry_one strings count k described next field entry bytes lt ok h =
    let same : fields_at (count - k) described ≡ with_first field (fields_at (count - (k + 1)) next) = fields_one count k described lt ∙ ap (λ r. r >>= λ p. with_first p.0 (fields_at (count - (k + 1)) p.1)) h in
    ap (λ fields. entry_at strings fields entry bytes) (ap read_fields same ∙ fields_with field (fields_at (count - (k + 1)) next) (sym (ap is_ok same) ∙ ok))

pub entry_on : (strings : Strings) (count k : ℕ) (described next : List ℕ) (field : Field) (entry more : Entry) (bytes after : List ℕ) (total : Read Entry)
    → k < count → is_ok (fields_at (count - k) described) ≡ true → field_at described ≡ Ok (field, next) → with_field strings field entry bytes ≡ Ok (more, after)
    → entry_left strings (count - k) described entry bytes ≡ total → entry_left strings (count - (k + 1)) next more after ≡ total
entry_on strings count k described next field entry more bytes after total lt ok h w so_far =
    sym (entry_one strings count k described next field entry bytes lt ok h ∙ ap (λ r. r >>= λ m. entry_left strings (count - (k + 1)) next m.0 m.1) w) ∙ so_far

pub entry_ends : (strings : Strings) (e : UnitError) (count k : ℕ) (described next : List ℕ) (field : Field) (entry : Entry) (bytes : List ℕ) (total : Read Entry)
    → k < count → is_ok (fields_at (count - k) described) ≡ true → field_at described ≡ Ok (field, next) → with_field strings field entry bytes ≡ Err e
    → entry_left strings (count - k) described entry bytes ≡ total → total ≡ Err e
entry_ends strings e count k described next field entry bytes total lt ok h w so_far =
    sym so_far ∙ entry_one strings count k described next field entry bytes lt ok h ∙ ap (λ r. r >>= λ m. entry_left strings (count - (k + 1)) next m.0 m.1) w

pub entry_done : (strings : Strings) (count k : ℕ) (described : List ℕ) (entry : Entry) (bytes : List ℕ) (total : Read Entry) → count ≤ k
    → entry_left strings (count - k) described entry bytes ≡ total → total ≡ Ok (entry, bytes)
unfolding entry_at
entry_done strings count k described entry bytes total le so_far =
    sym so_far ∙ ap (λ r. entry_at strings (read_fields r) entry bytes) (fields_none count k described le)
