-- The lines of a table: what their parts say, and that no two are alike.
use Rattle.std.proofs.Common.{◌≡◌, ◌∙◌, ◌==◌, ◌+◌, ◌/◌, ◌%◌, ◌<◌, ◌^◌, ℕ, zero, suc, true, not, List, [], ◌∷◌, ◌++◌, take, drop, get_or, slice_index, refl, sym, ap, append_assoc, length-append, arith}
use Rattle.std.proofs.lemmas.Bool.{false≢true}
use Rattle.std.proofs.lemmas.List.{take_at, drop_at}
use Rattle.std.specs.Prelude.{codes}
use Rattle.std.specs.List.{AllByRecursion}
use Rattle.std.specs.Fmt.{decimal}
use Rattle.hex.specs.Hex.{IsBytes, encode_lower, encode_with, lower_digits}
use Rattle.rv_text.specs.Numbers.{word_digits}
use Rattle.rv_count_tables.specs.declared.table.AddressCounts.{AddressCounts}
use Rattle.rv_count_tables.specs.declared.table.ImageCounts.{ImageCounts}
use Rattle.rv_count_tables.specs.declared.table.NamedCallNode.{NamedCallNode}
use Rattle.rv_count_tables.specs.Lines.{lacks, text_before_byte, text_after_byte, hex_bytes}
use Rattle.rv_count_tables.specs.ReadSteps.{Entry, Address, Node, IsValidEntry, entry_line}
use Rattle.rv_count_tables.specs.Table.{IsValidCount, IsValidImage, IsValidNamedNode, IsValidNode}
use Rattle.rv_count_tables.specs.Text.{line, address_line, image_line, last_line, node_line, fields_of_node}
use Rattle.rv_call_tree.specs.declared.call_node.CallNode.{CallNode}
use Rattle.rv_count_tables.proofs.Pieces.{lacks-append, before_at, after_at}
use Rattle.rv_count_tables.proofs.Words.{lacks-decimal, lacks-digits, lacks-encode, decimal_number_from, number_of-decimal, hex_number, word_of-digits, bytes_of-encode, eight_digits, digit_is_other, is_no_digit}
use Rattle.rv_count_tables.proofs.Told.{same_entry}

regroup : (x y z : List ℕ) → line (((x ++ y) ++ codes " ") ++ z) ≡ x ++ (y ++ 32 ∷ (z ++ 10 ∷ []))
regroup x y z = simp append_assoc

-- ---- the line of an address

abbrev pub address_words : AddressCounts → List ℕ
address_words c = word_digits c.address ++ codes " " ++ decimal c.executed ++ codes " " ++ decimal c.taken

pub address_is_line : (c : AddressCounts) → address_line c ≡ line (address_words c)
unfolding address_line
address_is_line c = refl

pub lacks-address : (c : AddressCounts) → IsValidCount c → lacks 10 (address_words c) ≡ true
lacks-address c h =
    let taken = h.taken in
    let fits = h.fits in
    lacks-append 10 (word_digits c.address ++ codes " " ++ decimal c.executed ++ codes " ") (decimal c.taken)
    (lacks-append 10 (word_digits c.address ++ codes " " ++ decimal c.executed) (codes " ")
    (lacks-append 10 (word_digits c.address ++ codes " ") (decimal c.executed)
    (lacks-append 10 (word_digits c.address) (codes " ") (lacks-digits c.address) refl)
    (lacks-decimal 10 c.executed (omega arith) h.fits)) refl) (lacks-decimal 10 c.taken (omega arith) (omega (arith, taken, fits)))

-- what stands behind the address
abbrev pub numbers_of : AddressCounts → List ℕ
numbers_of c = decimal c.executed ++ 32 ∷ (decimal c.taken ++ 10 ∷ [])

address_parts : (c : AddressCounts) → address_line c ≡ (word_digits c.address ++ codes " ") ++ numbers_of c
address_parts c = address_is_line c ∙ regroup (word_digits c.address ++ codes " ") (decimal c.executed) (decimal c.taken)

pub address_digits : (c : AddressCounts) → take 8 (address_line c) ≡ word_digits c.address
address_digits c =
    ap (take 8) (address_parts c ∙ append_assoc (word_digits c.address) (codes " ") (numbers_of c))
    ∙ take_at (word_digits c.address) (codes " " ++ numbers_of c) 8 (eight_digits c.address)

pub address_numbers : (c : AddressCounts) → drop 9 (address_line c) ≡ numbers_of c
address_numbers c =
    let n = eight_digits c.address in
    let m = length-append (word_digits c.address) (codes " ") in
    ap (drop 9) (address_parts c)
    ∙ drop_at (word_digits c.address ++ codes " ") (numbers_of c) 9 (m ∙ ap (λ (k : ℕ). k + 1) n)

pub begun_digits : (c : AddressCounts) → IsValidCount c → text_before_byte 32 (drop 9 (address_line c)) ≡ decimal c.executed
begun_digits c h = ap (text_before_byte 32) (address_numbers c)
    ∙ before_at 32 (decimal c.executed) (decimal c.taken ++ 10 ∷ []) (lacks-decimal 32 c.executed (omega arith) h.fits)

pub taken_digits : (c : AddressCounts) → IsValidCount c
    → text_before_byte 10 (text_after_byte 32 (drop 9 (address_line c))) ≡ decimal c.taken
taken_digits c h =
    let taken = h.taken in
    let fits = h.fits in
    ap (λ (s : List ℕ). text_before_byte 10 (text_after_byte 32 s)) (address_numbers c)
    ∙ ap (text_before_byte 10) (after_at 32 (decimal c.executed) (decimal c.taken ++ 10 ∷ [])
    (lacks-decimal 32 c.executed (omega arith) h.fits))
    ∙ before_at 10 (decimal c.taken) [] (lacks-decimal 10 c.taken (omega arith) (omega (arith, taken, fits)))

-- the counts that a line says
counts_in : List ℕ → AddressCounts
counts_in text = record {
  address = hex_number 0 (take 8 text);
  executed = decimal_number_from 0 (text_before_byte 32 (drop 9 text));
  taken = decimal_number_from 0 (text_before_byte 10 (text_after_byte 32 (drop 9 text)));
}

counts_in_line : (c : AddressCounts) → IsValidCount c → counts_in (address_line c) ≡ c
unfolding counts_in
counts_in_line c h =
    let taken = h.taken in
    let fits = h.fits in
    same_entry (counts_in (address_line c)) c (ap (hex_number 0) (address_digits c) ∙ word_of-digits c.address h.address)
    (ap (decimal_number_from 0) (begun_digits c h) ∙ number_of-decimal c.executed h.fits)
    (ap (decimal_number_from 0) (taken_digits c h) ∙ number_of-decimal c.taken (omega (arith, taken, fits)))

pub same_address : (c d : AddressCounts) → IsValidCount c → IsValidCount d → address_line c ≡ address_line d → c ≡ d
same_address c d h k e = sym (counts_in_line c h) ∙ ap counts_in e ∙ counts_in_line d k

-- ---- the line of an image

abbrev pub image_words : ImageCounts → List ℕ
image_words i = codes "image " ++ encode_lower i.digest ++ codes " " ++ i.path

pub image_is_line : (i : ImageCounts) → image_line i ≡ line (image_words i)
unfolding image_line
image_is_line i = refl

pub are_bytes : (bs : List ℕ) → AllByRecursion (λ b. b < 256) bs → IsBytes bs
are_bytes [] h k = omega arith
are_bytes (b ∷ bs) h zero = h.0
are_bytes (b ∷ bs) h (suc k) = are_bytes bs h.1 k

pub lacks-image : (i : ImageCounts) → IsValidImage i → lacks 10 (image_words i) ≡ true
lacks-image i h =
    lacks-append 10 (codes "image " ++ encode_lower i.digest ++ codes " ") i.path
    (lacks-append 10 (codes "image " ++ encode_lower i.digest) (codes " ")
    (lacks-append 10 (codes "image ") (encode_lower i.digest) refl
    (lacks-encode 10 i.digest refl (are_bytes i.digest h.bytes))) refl) h.path

-- what stands behind the word
abbrev pub digest_and_path : ImageCounts → List ℕ
digest_and_path i = encode_lower i.digest ++ 32 ∷ (i.path ++ 10 ∷ [])

pub image_parts : (i : ImageCounts) → drop 6 (image_line i) ≡ digest_and_path i
image_parts i = ap (drop 6) (image_is_line i ∙ regroup (codes "image ") (encode_lower i.digest) i.path)

pub digest_digits : (i : ImageCounts) → IsValidImage i → text_before_byte 32 (drop 6 (image_line i)) ≡ encode_lower i.digest
digest_digits i h = ap (text_before_byte 32) (image_parts i)
    ∙ before_at 32 (encode_lower i.digest) (i.path ++ 10 ∷ []) (lacks-encode 32 i.digest refl (are_bytes i.digest h.bytes))

pub path_text : (i : ImageCounts) → IsValidImage i → text_before_byte 10 (text_after_byte 32 (drop 6 (image_line i))) ≡ i.path
path_text i h =
    ap (λ (s : List ℕ). text_before_byte 10 (text_after_byte 32 s)) (image_parts i)
    ∙ ap (text_before_byte 10) (after_at 32 (encode_lower i.digest) (i.path ++ 10 ∷ [])
    (lacks-encode 32 i.digest refl (are_bytes i.digest h.bytes)))
    ∙ before_at 10 i.path [] h.path

pub digest_in_line : (i : ImageCounts) → IsValidImage i → hex_bytes (text_before_byte 32 (drop 6 (image_line i))) ≡ i.digest
digest_in_line i h = ap hex_bytes (digest_digits i h) ∙ bytes_of-encode i.digest (are_bytes i.digest h.bytes)

pub same_digest : (i j : ImageCounts) → IsValidImage i → IsValidImage j → image_line i ≡ image_line j → i.digest ≡ j.digest
same_digest i j h k e = sym (digest_in_line i h)
    ∙ ap (λ (s : List ℕ). hex_bytes (text_before_byte 32 (drop 6 s))) e ∙ digest_in_line j k

pub same_path : (i j : ImageCounts) → IsValidImage i → IsValidImage j → image_line i ≡ image_line j → i.path ≡ j.path
same_path i j h k e = sym (path_text i h)
    ∙ ap (λ (s : List ℕ). text_before_byte 10 (text_after_byte 32 (drop 6 s))) e ∙ path_text j k

-- ---- the last line

abbrev pub last_words : ℕ → ℕ → List ℕ
last_words images runs = codes "done " ++ decimal images ++ codes " " ++ decimal runs

pub last_is_line : (images runs : ℕ) → last_line images runs ≡ line (last_words images runs)
unfolding last_line
last_is_line images runs = refl

pub lacks-last : (images runs : ℕ) → images < 2 ^ 64 → runs < 2 ^ 64 → lacks 10 (last_words images runs) ≡ true
lacks-last images runs h k =
    lacks-append 10 (codes "done " ++ decimal images ++ codes " ") (decimal runs)
    (lacks-append 10 (codes "done " ++ decimal images) (codes " ")
    (lacks-append 10 (codes "done ") (decimal images) refl (lacks-decimal 10 images (omega arith) h)) refl)
    (lacks-decimal 10 runs (omega arith) k)

last_parts : (images runs : ℕ) → drop 5 (last_line images runs) ≡ decimal images ++ 32 ∷ (decimal runs ++ 10 ∷ [])
last_parts images runs = ap (drop 5) (last_is_line images runs ∙ regroup (codes "done ") (decimal images) (decimal runs))

pub runs_digits : (images runs : ℕ) → images < 2 ^ 64 → runs < 2 ^ 64
    → text_before_byte 10 (text_after_byte 32 (drop 5 (last_line images runs))) ≡ decimal runs
runs_digits images runs h k =
    ap (λ (s : List ℕ). text_before_byte 10 (text_after_byte 32 s)) (last_parts images runs)
    ∙ ap (text_before_byte 10) (after_at 32 (decimal images) (decimal runs ++ 10 ∷ [])
    (lacks-decimal 32 images (omega arith) h))
    ∙ before_at 10 (decimal runs) [] (lacks-decimal 10 runs (omega arith) k)

pub same_runs : (n m r q : ℕ) → n < 2 ^ 64 → m < 2 ^ 64 → r < 2 ^ 64 → q < 2 ^ 64 → last_line n r ≡ last_line m q → r ≡ q
same_runs n m r q hn hm hr hq e =
    sym (number_of-decimal r hr) ∙ sym (ap (decimal_number_from 0) (runs_digits n r hn hr))
    ∙ ap (λ (s : List ℕ). decimal_number_from 0 (text_before_byte 10 (text_after_byte 32 (drop 5 s)))) e
    ∙ ap (decimal_number_from 0) (runs_digits m q hm hq) ∙ number_of-decimal q hq

-- ---- the line of a spot

abbrev pub spot_words : NamedCallNode → List ℕ
spot_words n = fields_of_node n.node ++ codes " " ++ n.name

pub spot_is_line : (n : NamedCallNode) → node_line n ≡ line (spot_words n)
unfolding node_line
spot_is_line n = refl

lacks-words : (s : CallNode) → IsValidNode s → lacks 10 (fields_of_node s) ≡ true
unfolding fields_of_node
lacks-words s h =
    let depth = codes "spot " ++ decimal s.depth in
    let function = depth ++ codes " " ++ word_digits s.function in
    let calls = function ++ codes " " ++ decimal s.calls in
    lacks-append 10 (calls ++ codes " ") (decimal s.steps)
    (lacks-append 10 calls (codes " ")
    (lacks-append 10 (function ++ codes " ") (decimal s.calls)
    (lacks-append 10 function (codes " ")
    (lacks-append 10 (depth ++ codes " ") (word_digits s.function)
    (lacks-append 10 depth (codes " ")
    (lacks-append 10 (codes "spot ") (decimal s.depth) refl (lacks-decimal 10 s.depth (omega arith) h.depth)) refl)
    (lacks-digits s.function)) refl)
    (lacks-decimal 10 s.calls (omega arith) h.calls)) refl)
    (lacks-decimal 10 s.steps (omega arith) h.steps)

pub lacks-node : (n : NamedCallNode) → IsValidNamedNode n → lacks 10 (spot_words n) ≡ true
lacks-node n h = lacks-append 10 (fields_of_node n.node ++ codes " ") n.name
    (lacks-append 10 (fields_of_node n.node) (codes " ") (lacks-words n.node h.node) refl) h.name

-- what stands behind the arrivals, behind the function, and behind the depth
abbrev pub steps_and_name : NamedCallNode → List ℕ
steps_and_name n = decimal n.node.steps ++ 32 ∷ (n.name ++ 10 ∷ [])

abbrev pub numbers_of_spot : NamedCallNode → List ℕ
numbers_of_spot n = decimal n.node.calls ++ 32 ∷ steps_and_name n

abbrev pub function_of_spot : NamedCallNode → List ℕ
function_of_spot n = word_digits n.node.function ++ 32 ∷ numbers_of_spot n

regroup_more : (x y z u v w : List ℕ) → line (((((((((x ++ y) ++ codes " ") ++ z) ++ codes " ") ++ u) ++ codes " ") ++ v) ++ codes " ") ++ w)
    ≡ x ++ (y ++ 32 ∷ (z ++ 32 ∷ (u ++ 32 ∷ (v ++ 32 ∷ (w ++ 10 ∷ [])))))
regroup_more x y z u v w = simp append_assoc

spot_parts : (n : NamedCallNode) → drop 5 (node_line n) ≡ decimal n.node.depth ++ 32 ∷ function_of_spot n
unfolding fields_of_node
spot_parts n = ap (drop 5) (spot_is_line n
    ∙ regroup_more (codes "spot ") (decimal n.node.depth) (word_digits n.node.function) (decimal n.node.calls) (decimal n.node.steps) n.name)

pub depth_digits : (n : NamedCallNode) → IsValidNode n.node → text_before_byte 32 (drop 5 (node_line n)) ≡ decimal n.node.depth
depth_digits n h = ap (text_before_byte 32) (spot_parts n)
    ∙ before_at 32 (decimal n.node.depth) (function_of_spot n) (lacks-decimal 32 n.node.depth (omega arith) h.depth)

behind_depth : (n : NamedCallNode) → IsValidNode n.node → text_after_byte 32 (drop 5 (node_line n)) ≡ function_of_spot n
behind_depth n h = ap (text_after_byte 32) (spot_parts n)
    ∙ after_at 32 (decimal n.node.depth) (function_of_spot n) (lacks-decimal 32 n.node.depth (omega arith) h.depth)

pub spot_function_digits : (n : NamedCallNode) → IsValidNode n.node
    → take 8 (text_after_byte 32 (drop 5 (node_line n))) ≡ word_digits n.node.function
spot_function_digits n h = ap (take 8) (behind_depth n h)
    ∙ take_at (word_digits n.node.function) (32 ∷ numbers_of_spot n) 8 (eight_digits n.node.function)

spot_numbers : (n : NamedCallNode) → IsValidNode n.node → drop 9 (text_after_byte 32 (drop 5 (node_line n))) ≡ numbers_of_spot n
spot_numbers n h =
    let m = length-append (word_digits n.node.function) (codes " ") in
    let e = eight_digits n.node.function in
    ap (drop 9) (behind_depth n h ∙ sym (append_assoc (word_digits n.node.function) (codes " ") (numbers_of_spot n)))
    ∙ drop_at (word_digits n.node.function ++ codes " ") (numbers_of_spot n) 9 (omega (arith, m, e))

pub arrivals_digits : (n : NamedCallNode) → IsValidNode n.node
    → text_before_byte 32 (drop 9 (text_after_byte 32 (drop 5 (node_line n)))) ≡ decimal n.node.calls
arrivals_digits n h = ap (text_before_byte 32) (spot_numbers n h)
    ∙ before_at 32 (decimal n.node.calls) (steps_and_name n) (lacks-decimal 32 n.node.calls (omega arith) h.calls)

behind_arrivals : (n : NamedCallNode) → IsValidNode n.node
    → text_after_byte 32 (drop 9 (text_after_byte 32 (drop 5 (node_line n)))) ≡ steps_and_name n
behind_arrivals n h = ap (text_after_byte 32) (spot_numbers n h)
    ∙ after_at 32 (decimal n.node.calls) (steps_and_name n) (lacks-decimal 32 n.node.calls (omega arith) h.calls)

pub steps_digits : (n : NamedCallNode) → IsValidNode n.node
    → text_before_byte 32 (text_after_byte 32 (drop 9 (text_after_byte 32 (drop 5 (node_line n))))) ≡ decimal n.node.steps
steps_digits n h = ap (text_before_byte 32) (behind_arrivals n h)
    ∙ before_at 32 (decimal n.node.steps) (n.name ++ 10 ∷ []) (lacks-decimal 32 n.node.steps (omega arith) h.steps)

pub name_text : (n : NamedCallNode) → IsValidNamedNode n
    → text_before_byte 10 (text_after_byte 32 (text_after_byte 32 (drop 9 (text_after_byte 32 (drop 5 (node_line n)))))) ≡ n.name
name_text n h =
    ap (λ (t : List ℕ). text_before_byte 10 (text_after_byte 32 t)) (behind_arrivals n h.node)
    ∙ ap (text_before_byte 10) (after_at 32 (decimal n.node.steps) (n.name ++ 10 ∷ [])
    (lacks-decimal 32 n.node.steps (omega arith) h.node.steps))
    ∙ before_at 10 n.name [] h.name

pub same_spot_of : (s t : CallNode) → s.depth ≡ t.depth → s.function ≡ t.function → s.calls ≡ t.calls
    → s.steps ≡ t.steps → s ≡ t
same_spot_of s t d f a n = λ i. record { depth = d i; function = f i; calls = a i; steps = n i }

-- the spot that a line says
spot_in : List ℕ → NamedCallNode
spot_in text =
    let words = drop 5 text in
    let function = text_after_byte 32 words in
    let numbers = drop 9 function in
    let behind = text_after_byte 32 numbers in record {
      node = record {
        depth = decimal_number_from 0 (text_before_byte 32 words);
        function = hex_number 0 (take 8 function);
        calls = decimal_number_from 0 (text_before_byte 32 numbers);
        steps = decimal_number_from 0 (text_before_byte 32 behind);
      };
      name = text_before_byte 10 (text_after_byte 32 behind);
    }

spot_in_line : (n : NamedCallNode) → IsValidNamedNode n → spot_in (node_line n) ≡ n
unfolding spot_in
spot_in_line n h =
    let k = h.node in
    let one = same_spot_of (spot_in (node_line n)).node n.node
    (ap (decimal_number_from 0) (depth_digits n k) ∙ number_of-decimal n.node.depth k.depth)
    (ap (hex_number 0) (spot_function_digits n k) ∙ word_of-digits n.node.function k.function)
    (ap (decimal_number_from 0) (arrivals_digits n k) ∙ number_of-decimal n.node.calls k.calls)
    (ap (decimal_number_from 0) (steps_digits n k) ∙ number_of-decimal n.node.steps k.steps) in
    let text = name_text n h in
    λ i. record { node = one i; name = text i }

pub same_spot : (m n : NamedCallNode) → IsValidNamedNode m → IsValidNamedNode n → node_line m ≡ node_line n → m ≡ n
same_spot m n h k e = sym (spot_in_line m h) ∙ ap spot_in e ∙ spot_in_line n k

-- ---- lines of two kinds differ in their first bytes

same : (k : ℕ) → (k == k) ≡ true
same k = grind arith

other_byte : (byte d n : ℕ) → is_no_digit byte ≡ true → d < 16 → n ≡ slice_index lower_digits d → n ≡ byte → ⊥
other_byte byte d n other h is e =
    let one : (slice_index lower_digits d == byte) ≡ true = ap (λ (k : ℕ). k == byte) (sym is ∙ e) ∙ same byte in
    false≢true (sym (ap not one) ∙ digit_is_other byte d other h)

first_of_address : (c : AddressCounts) (s : List ℕ)
    → get_or (address_line c ++ s) 0 0 ≡ slice_index lower_digits (c.address / 2 ^ 24 % 256 / 16)
unfolding address_line word_digits encode_with
first_of_address c s = refl

second_of_address : (c : AddressCounts) (s : List ℕ)
    → get_or (address_line c ++ s) 1 0 ≡ slice_index lower_digits (c.address / 2 ^ 24 % 256 % 16)
unfolding address_line word_digits encode_with
second_of_address c s = refl

first_of_image : (i : ImageCounts) (s : List ℕ) → get_or (image_line i ++ s) 0 0 ≡ 105
unfolding image_line
first_of_image i s = refl

first_of_last : (n r : ℕ) (s : List ℕ) → get_or (last_line n r ++ s) 0 0 ≡ 100
unfolding last_line
first_of_last n r s = refl

second_of_last : (n r : ℕ) (s : List ℕ) → get_or (last_line n r ++ s) 1 0 ≡ 111
unfolding last_line
second_of_last n r s = refl

pub address_is_no_image : (c : AddressCounts) (i : ImageCounts) (s t : List ℕ)
    → address_line c ++ s ≡ image_line i ++ t → ⊥
address_is_no_image c i s t e =
    other_byte 105 (c.address / 2 ^ 24 % 256 / 16) (get_or (address_line c ++ s) 0 0) refl (omega arith)
    (first_of_address c s) (ap (λ (x : List ℕ). get_or x 0 0) e ∙ first_of_image i t)

pub address_is_not_last : (c : AddressCounts) (n r : ℕ) (s t : List ℕ)
    → address_line c ++ s ≡ last_line n r ++ t → ⊥
address_is_not_last c n r s t e =
    other_byte 111 (c.address / 2 ^ 24 % 256 % 16) (get_or (address_line c ++ s) 1 0) refl (omega arith)
    (second_of_address c s) (ap (λ (x : List ℕ). get_or x 1 0) e ∙ second_of_last n r t)

two_firsts : (n : ℕ) → n ≡ 105 → n ≡ 100 → ⊥
two_firsts n h k = omega arith

pub image_is_not_last : (i : ImageCounts) (n r : ℕ) (s t : List ℕ) → image_line i ++ s ≡ last_line n r ++ t → ⊥
image_is_not_last i n r s t e =
    two_firsts (get_or (image_line i ++ s) 0 0) (first_of_image i s)
    (ap (λ (x : List ℕ). get_or x 0 0) e ∙ first_of_last n r t)

first_of_spot : (p : NamedCallNode) (s : List ℕ) → get_or (node_line p ++ s) 0 0 ≡ 115
unfolding node_line fields_of_node
first_of_spot p s = refl

address_is_no_spot : (c : AddressCounts) (p : NamedCallNode) (s t : List ℕ) → address_line c ++ s ≡ node_line p ++ t → ⊥
address_is_no_spot c p s t e =
    other_byte 115 (c.address / 2 ^ 24 % 256 / 16) (get_or (address_line c ++ s) 0 0) refl (omega arith)
    (first_of_address c s) (ap (λ (x : List ℕ). get_or x 0 0) e ∙ first_of_spot p t)

differ_first : (xs ys : List ℕ) (x y : ℕ) → get_or xs 0 0 ≡ x → get_or ys 0 0 ≡ y → (x ≡ y → ⊥) → xs ≡ ys → ⊥
differ_first xs ys x y h k other e = other (sym h ∙ ap (λ (s : List ℕ). get_or s 0 0) e ∙ k)

-- ---- what stands behind the line of an image

abbrev pub entry_words : Entry → List ℕ
entry_words (Address c) = address_words c
entry_words (Node n) = spot_words n

pub entry_is_line : (e : Entry) → entry_line e ≡ line (entry_words e)
entry_is_line (Address c) = address_is_line c
entry_is_line (Node n) = spot_is_line n

pub lacks-entry : (e : Entry) → IsValidEntry e → lacks 10 (entry_words e) ≡ true
lacks-entry (Address c) h = lacks-address c h
lacks-entry (Node n) h = lacks-node n h

-- entries of one line are one
pub same_entry_line : (d e : Entry) → IsValidEntry d → IsValidEntry e → entry_line d ≡ entry_line e → d ≡ e
same_entry_line (Address c) (Address d) h k e = ap Address (same_address c d h k e)
same_entry_line (Address c) (Node s) h k e = absurd (address_is_no_spot c s [] [] (ap (λ (s : List ℕ). s ++ []) e))
same_entry_line (Node s) (Address c) h k e = absurd (address_is_no_spot c s [] [] (sym (ap (λ (s : List ℕ). s ++ []) e)))
same_entry_line (Node s) (Node t) h k e = ap Node (same_spot s t h k e)

pub entry_is_no_image : (e : Entry) (i : ImageCounts) (s t : List ℕ) → entry_line e ++ s ≡ image_line i ++ t → ⊥
entry_is_no_image (Address c) i s t e = address_is_no_image c i s t e
entry_is_no_image (Node p) i s t e = differ_first (node_line p ++ s) (image_line i ++ t) 115 105 (first_of_spot p s)
    (first_of_image i t) (λ same. omega (arith, same)) e

pub entry_is_not_last : (e : Entry) (n r : ℕ) (s t : List ℕ) → entry_line e ++ s ≡ last_line n r ++ t → ⊥
entry_is_not_last (Address c) n r s t e = address_is_not_last c n r s t e
entry_is_not_last (Node p) n r s t e = differ_first (node_line p ++ s) (last_line n r ++ t) 115 100 (first_of_spot p s)
    (first_of_last n r t) (λ same. omega (arith, same)) e
