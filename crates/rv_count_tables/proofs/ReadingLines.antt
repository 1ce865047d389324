-- Lines that are read, one behind the other.
use Rattle.std.proofs.Common.{Fits, w8, ◌≡◌, ◌∙◌, ◌==◌, ◌+◌, ◌-◌, ◌<◌, ◌≤◌, ℕ, suc, Bool, true, false, not, List, [], ◌∷◌, ◌++◌, Option, Some, None, length, drop, get_or, refl, sym, ap, subst, append_assoc, length-append, length-drop, arith, inl, inr}
use Rattle.std.proofs.lemmas.Bool.{and_parts, and_from, both_ways}
use Rattle.std.proofs.lemmas.Bool.Decides.{nat_tests}
use Rattle.std.proofs.lemmas.List.{drop_at, drop-drop, flat_map_more, append_cancel_right}
use Rattle.std.specs.Prelude.{◌&&◌, nat_le, codes}
use Rattle.std.specs.Cmp.Lexicographic.{bytes_decides}
use Rattle.std.specs.List.{AllByRecursion, flat_map, slice_get}
use Rattle.std.specs.Str.{bytes_eq, IsUtf8}
use Rattle.hex.specs.Hex.{encode_lower}
use Rattle.rv_count_tables.specs.declared.table.AddressCounts.{AddressCounts}
use Rattle.rv_count_tables.specs.declared.table.ImageCounts.{ImageCounts}
use Rattle.rv_count_tables.specs.declared.read_lines.ParsedAddresses.{ParsedAddresses}
use Rattle.rv_count_tables.specs.declared.read_lines.ParsedImages.{ParsedImages}
use Rattle.rv_count_tables.specs.declared.read_lines.ParsedImage.{ParsedImage}
use Rattle.rv_count_tables.specs.declared.read_stacks.ParsedNodes.{ParsedNodes}
use Rattle.rv_count_tables.specs.declared.table.FunctionName.{FunctionName}
use Rattle.rv_count_tables.specs.Lines.{lacks, whole_line}
use Rattle.rv_count_tables.specs.Table.{is_before, is_greater_than_last, digests_increase_from, increase_from, IsValidCount, IsValidImage}
use Rattle.rv_count_tables.specs.Text.{line, address_line, image_line, image_text, line_of_node}
use Rattle.rv_count_tables.specs.ReadSteps.{lowest_after, last_digest, before_first_image, after_image_line, after_images, after_entries, entries_of, NextLines, IsNotAnAddress, IsNotAnEntry, IsNotAnImage, AreParsedAddresses, AreParsedImages, AreParsedNodes, IsParsedImage}
use Rattle.rv_call_tree.specs.declared.call_node.CallNode.{CallNode}
use Rattle.rv_count_tables.proofs.Pieces.{cases_line, line_at, no_line}
use Rattle.rv_count_tables.proofs.AddingImages.{image_low, images_behind, images_rise, no_images_rise}
use Rattle.rv_count_tables.proofs.Entries.{all_entries, empty_entry, nothing_nowhere}
use Rattle.rv_count_tables.proofs.LineTexts.{address_is_line, image_is_line, address_words, image_words}

-- ---- the first line of a text, and what stands behind it

pub whole_split : (text : List ℕ) → text ≡ whole_line text ++ drop (length (whole_line text)) text
whole_split text = elim (cases_line text) [
  | inl h ↦ sym (ap (λ (s : List ℕ). s ++ drop (length s) text) (no_line text h))
  | inr h ↦
      let w : whole_line text ≡ h.front ++ 10 ∷ [] = ap whole_line h.all ∙ line_at h.front h.rest h.plain in
      let t : text ≡ (h.front ++ 10 ∷ []) ++ h.rest = h.all ∙ sym (append_assoc h.front (10 ∷ []) h.rest) in
      let d : drop (length (h.front ++ 10 ∷ [])) text ≡ h.rest =
      ap (drop (length (h.front ++ 10 ∷ []))) t ∙ drop_at (h.front ++ 10 ∷ []) h.rest (length (h.front ++ 10 ∷ [])) refl in
      t ∙ ap (λ (s : List ℕ). (h.front ++ 10 ∷ []) ++ s) (sym d)
      ∙ sym (ap (λ (s : List ℕ). s ++ drop (length s) text) w)
]

pub whole_within : (text : List ℕ) → length (whole_line text) ≤ length text
whole_within text =
    let e = ap (λ (s : List ℕ). length s) (whole_split text) in
    let f = length-append (whole_line text) (drop (length (whole_line text)) text) in
    omega (arith, e, f)

pub line_is_long : (xs : List ℕ) → 0 < length (line xs)
line_is_long xs = let e = length-append xs (10 ∷ []) in omega (arith, e)

pub address_is_long : (c : AddressCounts) → 0 < length (address_line c)
address_is_long c = subst (λ (s : List ℕ). 0 < length s) (sym (address_is_line c)) (line_is_long (address_words c))

image_is_long : (i : ImageCounts) → 0 < length (image_line i)
image_is_long i = subst (λ (s : List ℕ). 0 < length s) (sym (image_is_line i)) (line_is_long (image_words i))

-- ---- one more at the end

pub each_push : {X : Type 0} (P : X → Type 0) (xs : List X) (x : X) → AllByRecursion P xs → P x
    → AllByRecursion P (xs ++ x ∷ [])
each_push P [] x h p = (p, tt)
each_push P (y ∷ ys) x h p = (h.0, each_push P ys x h.1 p)

pub lines_push : {X : Type 0} (f : X → List ℕ) (xs : List X) (x : X) (text rest tail : List ℕ)
    → text ≡ flat_map f xs ++ rest → rest ≡ f x ++ tail → text ≡ flat_map f (xs ++ x ∷ []) ++ tail
lines_push f xs x text rest tail p q =
    p ∙ ap (λ (s : List ℕ). flat_map f xs ++ s) q ∙ sym (append_assoc (flat_map f xs) (f x) tail)
    ∙ ap (λ (s : List ℕ). s ++ tail) (flat_map_more f [] xs x)

pub lowest_push : (lowest : ℕ) (cs : List AddressCounts) (c : AddressCounts)
    → lowest_after lowest (cs ++ c ∷ []) ≡ c.address + 1
lowest_push lowest [] c = refl
lowest_push lowest (d ∷ ds) c = lowest_push (d.address + 1) ds c

pub rise_push : (lowest : ℕ) (cs : List AddressCounts) (c : AddressCounts) → increase_from lowest cs ≡ true
    → lowest_after lowest cs ≤ c.address → increase_from lowest (cs ++ c ∷ []) ≡ true
unfolding increase_from
rise_push lowest [] c h k =
    let t : nat_le lowest c.address ≡ true = grind (arith, nat_tests) in and_from (nat_le lowest c.address) true t refl
rise_push lowest (d ∷ ds) c h k =
    let p = and_parts (nat_le lowest d.address) (increase_from (d.address + 1) ds) h in
    and_from (nat_le lowest d.address) (increase_from (d.address + 1) (ds ++ c ∷ [])) p.0 (rise_push (d.address + 1) ds c p.1 k)

pub digest_push : (last : Option (List ℕ)) (is : List ImageCounts) (i : ImageCounts)
    → last_digest last (is ++ i ∷ []) ≡ Some i.digest
digest_push last [] i = refl
digest_push last (j ∷ js) i = digest_push (Some j.digest) js i

pub place_push : (place : NextLines) (is : List ImageCounts) (i : ImageCounts)
    → after_images place (is ++ i ∷ []) ≡ after_entries after_image_line (entries_of i)
place_push place [] i = refl
place_push place (j ∷ js) i = place_push (after_entries after_image_line (entries_of j)) js i

pub digests_push : (last : Option (List ℕ)) (is : List ImageCounts) (i : ImageCounts) → digests_increase_from last is ≡ true
    → is_greater_than_last (last_digest last is) i.digest ≡ true → digests_increase_from last (is ++ i ∷ []) ≡ true
digests_push last [] i h k = images_rise last i [] k (no_images_rise (Some i.digest))
digests_push last (j ∷ js) i h k = images_rise last j (js ++ i ∷ []) (image_low last j js h)
    (digests_push (Some j.digest) js i (images_behind last j js h) k)

pub last_of : (last : Option (List ℕ)) (is : List ImageCounts) (i : ImageCounts) → Some i ≡ slice_get is (length is - 1)
    → last_digest last is ≡ Some i.digest
last_of last [] i h = cc
last_of last (j ∷ []) i h =
    let e : i ≡ j = cc in sym (ap (λ (x : ImageCounts). Some x.digest) e)
last_of last (j ∷ (k ∷ ks)) i h =
    let e : length (j ∷ (k ∷ ks)) - 1 ≡ suc (length (k ∷ ks) - 1) = omega arith in
    last_of (Some j.digest) (k ∷ ks) i (h ∙ ap (slice_get (j ∷ (k ∷ ks))) e)

never : (is : List ImageCounts) → 0 < length is → None ≡ slice_get is (length is - 1) → ⊥
never [] h e = omega arith
never (j ∷ []) h e = cc
never (j ∷ (k ∷ ks)) h e =
    let f : length (j ∷ (k ∷ ks)) - 1 ≡ suc (length (k ∷ ks) - 1) = omega arith in
    never (k ∷ ks) (omega arith) (e ∙ ap (slice_get (j ∷ (k ∷ ks))) f)

pub none_last : (last : Option (List ℕ)) (is : List ImageCounts) → None ≡ slice_get is (length is - 1)
    → last_digest last is ≡ last
none_last last [] h = refl
none_last last (j ∷ []) h = cc
none_last last (j ∷ (k ∷ ks)) h =
    let e : length (j ∷ (k ∷ ks)) - 1 ≡ suc (length (k ∷ ks) - 1) = omega arith in
    absurd (never (k ∷ ks) (omega arith) (h ∙ ap (slice_get (j ∷ (k ∷ ks))) e))

-- ---- the loop over addresses

pub record AreSoFar (text : List ℕ) (cs : List AddressCounts) (from n : ℕ) : Type 0 where
  pub within : n ≤ length text
  pub lines : text ≡ flat_map address_line cs ++ drop n text
  pub each : AllByRecursion IsValidCount cs
  pub rising : increase_from 0 cs ≡ true
  pub lowest : from ≡ lowest_after 0 cs

pub none_so_far : (text : List ℕ) → AreSoFar text [] 0 0
unfolding increase_from
none_so_far text = record { within = omega arith; lines = refl; each = tt; rising = refl; lowest = refl }

pub further_within : (text : List ℕ) (n : ℕ) → n ≤ length text → n + length (whole_line (drop n text)) ≤ length text
further_within text n h =
    let w = whole_within (drop n text) in
    let l = length-drop n text in
    omega (arith, w, l)

pub one_so_far : (text : List ℕ) (cs : List AddressCounts) (lowest n m : ℕ) (c : AddressCounts) → AreSoFar text cs lowest n
    → IsValidCount c → lowest ≤ c.address → whole_line (drop n text) ≡ address_line c → m ≡ n + length (whole_line (drop n text))
    → AreSoFar text (cs ++ c ∷ []) (c.address + 1) m
one_so_far text cs lowest n m c h counted under is e =
    let low = h.lowest in
    let rest : drop (length (whole_line (drop n text))) (drop n text) ≡ drop m text =
    drop-drop (length (whole_line (drop n text))) n text ∙ ap (λ (k : ℕ). drop k text) (sym e) in
    let within = further_within text n h.within in record {
      within = omega (arith, within, e);
      lines = lines_push address_line cs c text (drop n text) (drop m text) h.lines
          (whole_split (drop n text) ∙ ap (λ (s : List ℕ). s ++ drop (length (whole_line (drop n text))) (drop n text)) is
          ∙ ap (λ (s : List ℕ). address_line c ++ s) rest);
      each = each_push IsValidCount cs c h.each counted;
      rising = rise_push 0 cs c h.rising (omega (arith, low, under));
      lowest = sym (lowest_push 0 cs c);
    }

pub all_so_far : (text : List ℕ) (lowest : ℕ) (read : ParsedAddresses) → AreSoFar text read.addresses lowest read.length
    → IsNotAnAddress lowest (whole_line (drop read.length text)) → AreParsedAddresses text read
all_so_far text lowest read h no_more = record {
  within = h.within;
  lines = h.lines;
  counts = record { each = h.each; rising = h.rising };
  next_line = subst (λ (n : ℕ). IsNotAnAddress n (whole_line (drop read.length text))) h.lowest no_more;
}

-- ---- one image

image_line_is_kept : (i : ImageCounts) (cs : List AddressCounts) (ns : List FunctionName) (ss : List CallNode)
    → image_text (record i { addresses = cs; functions = ns; nodes = ss })
    ≡ image_line i ++ flat_map address_line cs ++ flat_map (line_of_node ns) ss
unfolding image_text image_line
image_line_is_kept i cs ns ss = refl

four_parts : (a b c d : List ℕ) → a ++ (b ++ (c ++ d)) ≡ (a ++ b ++ c) ++ d
four_parts a b c d = sym (append_assoc (a ++ b) c d ∙ append_assoc a b (c ++ d))

pub lacks_path : (xs ys : List ℕ) → lacks 10 (xs ++ ys) ≡ true → lacks 10 ys ≡ true
lacks_path [] ys h = h
lacks_path (b ∷ bs) ys h = lacks_path bs ys (and_parts (not (b == 10)) (lacks 10 (bs ++ ys)) h).1

pub plain_line : (text : List ℕ) (xs : List ℕ) → whole_line text ≡ line xs → (front : List ℕ) × (lacks 10 front ≡ true) × (line front ≡ line xs)
plain_line text xs e = elim (cases_line text) [
  | inl h ↦
      let n : length (line xs) ≡ 0 = ap (λ (s : List ℕ). length s) (sym e ∙ no_line text h) in
      let k = line_is_long xs in absurd (omega (arith, n, k))
  | inr h ↦ (h.front, h.plain, sym (ap whole_line h.all ∙ line_at h.front h.rest h.plain) ∙ e)
]

pub same_words : (xs ys : List ℕ) → line xs ≡ line ys → xs ≡ ys
same_words xs ys e = append_cancel_right xs ys (10 ∷ []) e

pub plain_image : (text : List ℕ) (i : ImageCounts) → whole_line text ≡ image_line i → lacks 10 i.path ≡ true
plain_image text i e =
    let p = plain_line text (image_words i) (e ∙ image_is_line i) in
    lacks_path (codes "image " ++ encode_lower i.digest ++ codes " ") i.path
    (ap (lacks 10) (sym (same_words p.0 (image_words i) p.2)) ∙ p.1)

-- what was read behind the line of an image
pub record AreParts (text : List ℕ) (start : ℕ) (lines : ParsedAddresses) (nodes : ParsedNodes) (n : ℕ) : Type 0 where
  pub addresses : AreParsedAddresses (drop start text) lines
  pub stacks : AreParsedNodes (drop (start + lines.length) text) nodes
  pub end : n ≡ start + lines.length + nodes.length

parts_within : (text : List ℕ) (start : ℕ) (lines : ParsedAddresses) (nodes : ParsedNodes) (n : ℕ)
    → AreParts text start lines nodes n → start ≤ length text → n ≤ length text
parts_within text start lines nodes n h le =
    let a = h.addresses.within in
    let b = h.stacks.within in
    let p = length-drop start text in
    let q = length-drop (start + lines.length) text in
    let e = h.end in
    omega (arith, a, b, p, q, e)

parts_text : (text : List ℕ) (start : ℕ) (lines : ParsedAddresses) (nodes : ParsedNodes) (n : ℕ)
    → AreParts text start lines nodes n → drop start text ≡ flat_map address_line lines.addresses
    ++ (flat_map (line_of_node nodes.functions) nodes.nodes ++ drop n text)
parts_text text start lines nodes n h =
    let second : drop (start + lines.length) text ≡ flat_map (line_of_node nodes.functions) nodes.nodes ++ drop n text =
    h.stacks.lines ∙ ap (λ (t : List ℕ). flat_map (line_of_node nodes.functions) nodes.nodes ++ t)
    (drop-drop nodes.length (start + lines.length) text ∙ ap (λ (k : ℕ). drop k text) (sym h.end)) in
    h.addresses.lines ∙ ap (λ (t : List ℕ). flat_map address_line lines.addresses ++ t)
    (drop-drop lines.length start text ∙ second)

no_part : (text : List ℕ) (start : ℕ) (lines : ParsedAddresses) (nodes : ParsedNodes) (n : ℕ) → AreParts text start lines nodes n
    → IsNotAnEntry (after_entries after_image_line (all_entries lines.addresses nodes.functions nodes.nodes)) (whole_line (drop n text))
no_part text start lines nodes n h =
    let end = drop-drop nodes.length (start + lines.length) text ∙ ap (λ (k : ℕ). drop k text) (sym h.end) in
    subst (λ (t : List ℕ). IsNotAnEntry (after_entries after_image_line (all_entries lines.addresses nodes.functions nodes.nodes)) (whole_line t)) end
    (empty_entry lines.addresses nodes.functions nodes.nodes (whole_line (drop lines.length (drop start text)))
    (whole_line (drop nodes.length (drop (start + lines.length) text)))
    h.addresses.next_line h.stacks.next_line h.stacks.known
    (λ e. ap whole_line (drop-drop lines.length start text ∙ h.stacks.lines
    ∙ ap (λ (ss : List CallNode). flat_map (line_of_node nodes.functions) ss ++ drop nodes.length (drop (start + lines.length) text)) e)))

pub one_image : (last : Option (List ℕ)) (text : List ℕ) (image : ImageCounts) (lines : ParsedAddresses)
    (nodes : ParsedNodes) (n : ℕ) → whole_line text ≡ image_line image → length image.digest ≡ 32
    → is_greater_than_last last image.digest ≡ true → AllByRecursion (λ b. b < 256) image.digest → IsUtf8 image.path
    → AreParts text (length (whole_line text)) lines nodes n
    → IsParsedImage last text (record {
      image = record image { addresses = lines.addresses; functions = nodes.functions; nodes = nodes.nodes };
      length = n;
    })
one_image last text image lines nodes n is long rising bytes utf h =
    let w = whole_line text in
    let split = whole_split text in
    let long_enough : 0 < length w = subst (λ (s : List ℕ). 0 < length s) (sym is) (image_is_long image) in
    let end = h.end in record {
      within = parts_within text (length w) lines nodes n h (whole_within text);
      lines = split ∙ ap (λ (s : List ℕ). s ++ drop (length w) text) is
          ∙ ap (λ (s : List ℕ). image_line image ++ s) (parts_text text (length w) lines nodes n h)
          ∙ four_parts (image_line image) (flat_map address_line lines.addresses)
          (flat_map (line_of_node nodes.functions) nodes.nodes) (drop n text)
          ∙ ap (λ (s : List ℕ). s ++ drop n text) (sym (image_line_is_kept image lines.addresses nodes.functions nodes.nodes));
      some = omega (arith, long_enough, end);
      image = record {
        digest = long;
        bytes = bytes;
        path = plain_image text image is;
        text = utf;
        counts = h.addresses.counts;
        names = h.stacks.names;
        nodes = h.stacks.nodes;
        names_of_nodes = h.stacks.names_of_nodes;
      };
      rising = rising;
      next_line = no_part text (length w) lines nodes n h;
    }

pub no_image_digest : (last : Option (List ℕ)) (text digest : List ℕ)
    → ((i : ImageCounts) → IsValidImage i → text ≡ image_line i → digest ≡ i.digest)
    → ((length digest == 32) && is_greater_than_last last digest) ≡ false → IsNotAnImage last text
no_image_digest last text digest same other i h rising e =
    let d = same i h e in
    both_ways _ other (and_from _ _ (ap (λ (s : List ℕ). length s == 32) d ∙ ap (λ (n : ℕ). n == 32) h.digest)
    (ap (is_greater_than_last last) d ∙ rising))

image_line_of : (i j : ImageCounts) → i.digest ≡ j.digest → i.path ≡ j.path → image_line i ≡ image_line j
unfolding image_line
image_line_of i j d p = λ k. line (codes "image " ++ encode_lower (d k) ++ codes " " ++ p k)

pub no_image_line : (last : Option (List ℕ)) (text : List ℕ) (image : ImageCounts)
    → ((i : ImageCounts) → IsValidImage i → text ≡ image_line i → image.digest ≡ i.digest)
    → ((i : ImageCounts) → IsValidImage i → text ≡ image_line i → image.path ≡ i.path)
    → bytes_eq text (image_line image) ≡ false → IsNotAnImage last text
no_image_line last text image digest path other i h rising e =
    both_ways _ other ((bytes_decides text (image_line image)).1
    (e ∙ sym (image_line_of image i (digest i h e) (path i h e))))

-- ---- the loop over images

pub record ImagesSoFar (text : List ℕ) (is : List ImageCounts) (n : ℕ) : Type 0 where
  pub within : n ≤ length text
  pub lines : text ≡ flat_map image_text is ++ drop n text
  pub images : AllByRecursion IsValidImage is
  pub rising : digests_increase_from None is ≡ true
  pub entry : IsNotAnEntry (after_images before_first_image is) (whole_line (drop n text))

pub no_images_so_far : (text : List ℕ) → ImagesSoFar text [] 0
no_images_so_far text = record {
  within = omega arith;
  lines = refl;
  images = tt;
  rising = no_images_rise None;
  entry = nothing_nowhere (whole_line text);
}

pub image_so_far : (text : List ℕ) (is : List ImageCounts) (n m : ℕ) (read : ParsedImage) → ImagesSoFar text is n
    → IsParsedImage (last_digest None is) (drop n text) read → m ≡ n + read.length
    → ImagesSoFar text (is ++ read.image ∷ []) m
image_so_far text is n m read h one e =
    let d : drop read.length (drop n text) ≡ drop m text =
    drop-drop read.length n text ∙ ap (λ (k : ℕ). drop k text) (sym e) in
    let within = one.within in
    let before = h.within in
    let l = length-drop n text in record {
      within = omega (arith, within, before, l, e);
      lines = lines_push image_text is read.image text (drop n text) (drop m text) h.lines
          (one.lines ∙ ap (λ (s : List ℕ). image_text read.image ++ s) d);
      images = each_push IsValidImage is read.image h.images one.image;
      rising = digests_push None is read.image h.rising one.rising;
      entry = subst (λ (p : NextLines). IsNotAnEntry p (whole_line (drop m text))) (sym (place_push before_first_image is read.image))
          (subst (λ (s : List ℕ). IsNotAnEntry (after_entries after_image_line (entries_of read.image)) (whole_line s)) d one.next_line);
    }

pub images_read : (text : List ℕ) (read : ParsedImages) → ImagesSoFar text read.images read.length
    → IsNotAnImage (last_digest None read.images) (whole_line (drop read.length text)) → AreParsedImages text read
images_read text read h no_more = record {
  within = h.within;
  lines = h.lines;
  images = h.images;
  rising = h.rising;
  entry = h.entry;
  image = no_more;
}

-- ---- what is read of one line

pub follows : (last : Option (List ℕ)) (digest before : List ℕ) (t : Bool) → t ≡ is_before before digest
    → last ≡ Some before → length digest ≡ 32 → t ≡ ((length digest == 32) && is_greater_than_last last digest)
follows last digest before t h e n =
    h ∙ ap (λ (l : Option (List ℕ)). is_greater_than_last l digest) (sym e)
    ∙ ap (λ (b : Bool). b && is_greater_than_last last digest) (sym (ap (λ (k : ℕ). k == 32) n))

pub all_fit : (xs : List ℕ) → ((i : ℕ) → Fits w8 (get_or xs i 0)) → AllByRecursion (λ b. b < 256) xs
all_fit [] h = tt
all_fit (x ∷ xs) h = (let k = (h 0).fits in omega (arith, k), all_fit xs (λ i. h (suc i)))
