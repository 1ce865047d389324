-- What is read leaves no more bytes than there were, and an operation or a text leaves fewer.
use Rattle.std.proofs.Common.{◌≡◌, ◌<◌, ◌≤◌, ◌+◌, ◌-◌, ◌==◌, ◌%◌, ◌*◌, ◌*ℤ◌, ◌+ℤ◌, ℕ, ℤ, pos, negsuc, zero, suc, Bool, true, false, cond, List, [], ◌∷◌, length, drop, Option, Some, None, option_map, Result, Ok, Err, refl, sym, arith, nat_lt, nat_le, length-drop}
use Rattle.rv_elf.specs.Sections.{text_before_zero}
use Rattle.rv_lines.specs.declared.error.UnitError.{UnitError}
use Rattle.rv_lines.specs.declared.error.UnitError.TheVariants as unit
use Rattle.rv_lines.specs.declared.operations.Operation.{Operation}
use Rattle.rv_lines.specs.declared.operations.Operation.TheVariants as operation
use Rattle.rv_lines.specs.Reading.{◌>>=◌, Read, byte_at, fixed_at, skip_at, string_or, string_at}
use Rattle.rv_lines.specs.Numbers.{unsigned_leb, signed_leb, number_or, number_at, modulo_or, signed_or, signed_at, end_or, skip_number, skip_numbers}
use Rattle.rv_lines.specs.Entries.{numbers_at}
use Rattle.rv_lines.specs.Operations.{with_operand, skip_operands, standard_at, extended_of_length, extended_at, operation_at}

-- at most n bytes are left, if there is no error
abbrev pub Within : {X : Type 0} → ℕ → Read X → Type 0
Within n (Ok x) = length x.1 ≤ n
Within n (Err e) = Unit {0}

abbrev pub RestWithin : ℕ → Result (List ℕ) UnitError → Type 0
RestWithin n (Ok rest) = length rest ≤ n
RestWithin n (Err e) = Unit {0}

pub within_then : {X Y : Type 0} (n : ℕ) (r : Read X) (f : X × List ℕ → Read Y) → Within n r → ((x : X × List ℕ) → length x.1 ≤ n → Within n (f x)) → Within n (r >>= f)
within_then n (Ok x) f w g = g x w
within_then n (Err e) f w g = tt

rest_then : {Y : Type 0} (n : ℕ) (r : Result (List ℕ) UnitError) (f : List ℕ → Read Y) → RestWithin n r → ((x : List ℕ) → length x ≤ n → Within n (f x)) → Within n (r >>= f)
rest_then n (Ok x) f w g = g x w
rest_then n (Err e) f w g = tt

rest_rest : (n : ℕ) (r : Result (List ℕ) UnitError) (f : List ℕ → Result (List ℕ) UnitError) → RestWithin n r → ((x : List ℕ) → length x ≤ n → RestWithin n (f x)) → RestWithin n (r >>= f)
rest_rest n (Ok x) f w g = g x w
rest_rest n (Err e) f w g = tt

within_if : {X : Type 0} (n : ℕ) (b : Bool) (x y : Read X) → Within n x → Within n y → Within n (cond b x y)
within_if n true x y p q = p
within_if n false x y p q = q

rest_if : (n : ℕ) (b : Bool) (x y : Result (List ℕ) UnitError) → RestWithin n x → RestWithin n y → RestWithin n (cond b x y)
rest_if n true x y p q = p
rest_if n false x y p q = q

-- ---- numbers

abbrev SomeWithin : {X : Type 0} → ℕ → Option (X × List ℕ) → Type 0
SomeWithin n None = Unit {0}
SomeWithin n (Some x) = length x.1 ≤ n

some_more : {X Y : Type 0} (n : ℕ) (f : X × List ℕ → Y) (o : Option (X × List ℕ)) → SomeWithin n o → SomeWithin (suc n) (option_map (λ x. (f x, x.1)) o)
some_more n f None w = tt
some_more n f (Some x) w = omega arith

some_if : {X : Type 0} (n : ℕ) (b : Bool) (x y : Option (X × List ℕ)) → SomeWithin n x → SomeWithin n y → SomeWithin n (cond b x y)
some_if n true x y p q = p
some_if n false x y p q = q

unsigned_within : (bytes : List ℕ) → SomeWithin (length bytes) (unsigned_leb bytes)
unfolding unsigned_leb
unsigned_within [] = tt
unsigned_within (b ∷ bytes) = some_if (length (b ∷ bytes)) (nat_lt b 128) (Some (b, bytes)) (option_map (λ n. (b % 128 + 128 * n.0, n.1)) (unsigned_leb bytes))
    (omega arith) (some_more (length bytes) (λ n. b % 128 + 128 * n.0) (unsigned_leb bytes) (unsigned_within bytes))

signed_within : (bytes : List ℕ) → SomeWithin (length bytes) (signed_leb bytes)
unfolding signed_leb
signed_within [] = tt
signed_within (b ∷ bytes) = some_if (length (b ∷ bytes)) (nat_lt b 64) (Some (pos b, bytes)) _ (omega arith)
    (some_if (length (b ∷ bytes)) (nat_lt b 128) (Some (negsuc (127 - b), bytes)) (option_map (λ n. (pos (b % 128) +ℤ (pos 128 *ℤ n.0), n.1)) (signed_leb bytes))
    (omega arith) (some_more (length bytes) (λ n. pos (b % 128) +ℤ (pos 128 *ℤ n.0)) (signed_leb bytes) (signed_within bytes)))

number_or_within : (n : ℕ) (cut : UnitError) (o : Option (ℕ × List ℕ)) → SomeWithin n o → Within n (number_or cut o)
number_or_within n cut None w = tt
number_or_within n cut (Some x) w = within_if n (nat_lt x.0 4294967296) (Ok x) (Err unit.Number) w tt

pub number_within : (cut : UnitError) (bytes : List ℕ) → Within (length bytes) (number_at cut bytes)
unfolding number_at
number_within cut bytes = number_or_within (length bytes) cut (unsigned_leb bytes) (unsigned_within bytes)

modulo_within : (n : ℕ) (x : ℤ) (rest : List ℕ) → length rest ≤ n → Within n (modulo_or x rest)
modulo_within n (pos x) rest w = within_if n (nat_lt x 2147483648) (Ok (x, rest)) (Err unit.Number) w tt
modulo_within n (negsuc x) rest w = within_if n (nat_lt x 2147483648) (Ok (4294967295 - x, rest)) (Err unit.Number) w tt

signed_or_within : (n : ℕ) (cut : UnitError) (o : Option (ℤ × List ℕ)) → SomeWithin n o → Within n (signed_or cut o)
signed_or_within n cut None w = tt
signed_or_within n cut (Some x) w = modulo_within n x.0 x.1 w

signed_at_within : (cut : UnitError) (bytes : List ℕ) → Within (length bytes) (signed_at cut bytes)
unfolding signed_at
signed_at_within cut bytes = signed_or_within (length bytes) cut (signed_leb bytes) (signed_within bytes)

end_or_within : (n : ℕ) (cut : UnitError) (o : Option (ℕ × List ℕ)) → SomeWithin n o → RestWithin n (end_or cut o)
end_or_within n cut None w = tt
end_or_within n cut (Some x) w = w

pub skip_within : (cut : UnitError) (bytes : List ℕ) → RestWithin (length bytes) (skip_number cut bytes)
unfolding skip_number
skip_within cut bytes = end_or_within (length bytes) cut (unsigned_leb bytes) (unsigned_within bytes)

wider : {X : Type 0} (m n : ℕ) (r : Read X) → m ≤ n → Within m r → Within n r
wider m n (Ok x) le w = omega arith
wider m n (Err e) le w = tt

rest_wider : (m n : ℕ) (r : Result (List ℕ) UnitError) → m ≤ n → RestWithin m r → RestWithin n r
rest_wider m n (Ok x) le w = omega arith
rest_wider m n (Err e) le w = tt

skips_within : (n : ℕ) (cut : UnitError) (count : ℕ) (bytes : List ℕ) → length bytes ≤ n → RestWithin n (skip_numbers cut count bytes)
unfolding skip_numbers
skips_within n cut zero bytes le = le
skips_within n cut (suc count) bytes le = rest_rest n (skip_number cut bytes) (skip_numbers cut count)
    (rest_wider (length bytes) n (skip_number cut bytes) le (skip_within cut bytes)) (λ x h. skips_within n cut count x h)

-- ---- fixed sizes

fixed_within : (cut : UnitError) (size : ℕ) (bytes : List ℕ) → Within (length bytes) (fixed_at cut size bytes)
fixed_within cut size bytes = within_if (length bytes) (nat_lt (length bytes) size) (Err cut) _ tt (omega (arith, length-drop size bytes))

skip_at_within : (cut : UnitError) (size : ℕ) (bytes : List ℕ) → RestWithin (length bytes) (skip_at cut size bytes)
skip_at_within cut size bytes = rest_if (length bytes) (nat_lt (length bytes) size) (Err cut) (Ok (drop size bytes)) tt (omega (arith, length-drop size bytes))

byte_within : (cut : UnitError) (bytes : List ℕ) → Within (length bytes) (byte_at cut bytes)
byte_within cut [] = tt
byte_within cut (b ∷ bytes) = omega arith

-- ---- operations

operand_within : (n : ℕ) (op : ℕ → Operation) (r : Read ℕ) → Within n r → Within n (with_operand op r)
operand_within n op (Ok x) w = w
operand_within n op (Err e) w = tt

skipping_within : (n : ℕ) (r : Result (List ℕ) UnitError) → RestWithin n r → Within n (skip_operands r)
skipping_within n (Ok x) w = w
skipping_within n (Err e) w = tt

standard_within : (lengths : List ℕ) (code : ℕ) (bytes : List ℕ) → Within (length bytes) (standard_at lengths code bytes)
unfolding standard_at
standard_within lengths code bytes = let n = length bytes in
    within_if n (code == 1) _ _ (omega arith)
    (within_if n (code == 2) _ _ (operand_within n operation.AdvancePc _ (number_within unit.OperationCutOff bytes))
    (within_if n (code == 3) _ _ (operand_within n operation.AdvanceLine _ (signed_at_within unit.OperationCutOff bytes))
    (within_if n (code == 4) _ _ (operand_within n operation.SetFile _ (number_within unit.OperationCutOff bytes))
    (within_if n (code == 6) _ _ (omega arith)
    (within_if n (code == 8) _ _ (omega arith)
    (within_if n (code == 9) _ _ (operand_within n operation.FixedAdvancePc _ (fixed_within unit.OperationCutOff 2 bytes))
    (skipping_within n _ (skips_within n unit.OperationCutOff _ bytes (omega arith)))))))))

extended_length_within : (n size : ℕ) (bytes : List ℕ) → length bytes ≤ n → Within n (extended_of_length size bytes)
unfolding extended_of_length
extended_length_within n size bytes le = within_then n (byte_at unit.OperationCutOff bytes) _ (wider (length bytes) n _ le (byte_within unit.OperationCutOff bytes)) (λ code h.
    within_if n (code.0 == 1) _ _ (within_if n (size == 1) _ _ h tt)
    (within_if n (code.0 == 2) _ _ (within_if n (size == 5) _ _ (operand_within n operation.SetAddress _ (wider (length code.1) n _ h (fixed_within unit.OperationCutOff 4 code.1))) tt)
    (skipping_within n _ (rest_wider (length code.1) n _ h (skip_at_within unit.OperationCutOff (size - 1) code.1)))))

extended_within : (bytes : List ℕ) → Within (length bytes) (extended_at bytes)
unfolding extended_at
extended_within bytes = within_then (length bytes) (number_at unit.OperationCutOff bytes) _ (number_within unit.OperationCutOff bytes) (λ size h.
    within_if (length bytes) (size.0 == 0) _ _ tt (extended_length_within (length bytes) size.0 size.1 h))

-- an operation has at least one byte
pub operation_within : (opcode_base : ℕ) (lengths : List ℕ) (b : ℕ) (bytes : List ℕ) → Within (length bytes) (operation_at opcode_base lengths (b ∷ bytes))
unfolding operation_at
operation_within opcode_base lengths b bytes = let n = length bytes in
    within_if n (nat_le opcode_base b) _ _ (omega arith) (within_if n (b == 0) _ _ (extended_within bytes) (standard_within lengths b bytes))

-- ---- strings

text_longer : (b n : ℕ) (z : Bool) (o : Option (List ℕ)) → ((t : List ℕ) → o ≡ Some t → length t < n) → (t : List ℕ) → cond z (Some []) (option_map (λ t. b ∷ t) o) ≡ Some t → length t < suc n
text_longer b n true o h t e = let k : t ≡ [] = cc in rw k (omega arith)
text_longer b n false None h t e = absurd cc
text_longer b n false (Some s) h t e = let k : t ≡ b ∷ s = cc in let l = h s refl in rw k (omega arith)

pub text_shorter : (bytes : List ℕ) (t : List ℕ) → text_before_zero bytes ≡ Some t → length t < length bytes
text_shorter [] t e = absurd cc
text_shorter (b ∷ bytes) t e = text_longer b (length bytes) (b == 0) (text_before_zero bytes) (text_shorter bytes) t e

-- fewer bytes are left, if there is no error
abbrev pub Fewer : {X : Type 0} → ℕ → Read X → Type 0
Fewer n (Ok x) = length x.1 < n
Fewer n (Err e) = Unit {0}

string_or_fewer : (cut : UnitError) (bytes : List ℕ) (o : Option (List ℕ)) → o ≡ text_before_zero bytes → Fewer (length bytes) (string_or cut bytes o)
string_or_fewer cut bytes None e = tt
string_or_fewer cut bytes (Some t) e = let l = text_shorter bytes t (sym e) in omega (arith, length-drop (length t + 1) bytes)

-- a text has at least one byte
pub text_fewer : (cut : UnitError) (bytes : List ℕ) → Fewer (length bytes) (string_at cut bytes)
unfolding string_at
text_fewer cut bytes = string_or_fewer cut bytes (text_before_zero bytes) refl

pub numbers_within : (of_files : Bool) (bytes : List ℕ) → Within (length bytes) (numbers_at of_files bytes)
unfolding numbers_at
numbers_within false bytes = omega arith
numbers_within true bytes = let n = length bytes in
    within_then n (number_at unit.HeaderCutOff bytes) _ (number_within unit.HeaderCutOff bytes) (λ directory h.
    rest_then n (skip_number unit.HeaderCutOff directory.1) _ (rest_wider (length directory.1) n _ h (skip_within unit.HeaderCutOff directory.1)) (λ time i.
    rest_then n (skip_number unit.HeaderCutOff time) _ (rest_wider (length time) n _ i (skip_within unit.HeaderCutOff time)) (λ size j. j)))
