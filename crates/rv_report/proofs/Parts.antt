-- The last line, and what it says.
use Rattle.std.proofs.Common.{◌≡◌, ◌∙◌, ◌==◌, ◌+◌, ◌<◌, ◌≤◌, ◌^◌, ℕ, suc, Bool, true, false, ◌&&◌, not, cond, List, []}
use Rattle.std.proofs.Common.{◌∷◌, ◌++◌, length, take, drop, refl, ap, arith, append_assoc}
use Rattle.std.proofs.Common.{add-one}
use Rattle.std.specs.Prelude.{codes, nat_le}
use Rattle.std.proofs.lemmas.Bool.{and_parts}
use Rattle.std.proofs.lemmas.Bool.Decides.{nat_tests}
use Rattle.std.specs.Fmt.{decimal}
use Rattle.rv_base.specs.Names.{is_name}
use Rattle.rv_base.specs.Limits.{max_jobs}
use Rattle.rv_report.specs.declared.row.Row.{Row}
use Rattle.rv_report.specs.Report.{line, done_line}
use Rattle.rv_report.specs.declared.saved.Extent.{Extent}
use Rattle.rv_report.specs.declared.saved.Extent.TheVariants.{Whole, Selection}
use Rattle.rv_report.specs.declared.saved.Extent.TheVariants as extent
use Rattle.rv_report.specs.declared.saved.Shard.{Shard}
use Rattle.rv_report.specs.LenientReport.{text_before_byte, text_after_byte, decimal_number, name_or_dash, shard_of_text, part_extent_of_line, state_between_rows, with_stage_done}
use Rattle.rv_report.specs.LenientReport.{after_job_or_last_line, with_line, index_of_byte}
use Rattle.rv_report.specs.Saved.{part_text, shard_text, extent_line, is_valid_shard, are_increasing, are_evenly_spaced, matches_job_numbers}
use Rattle.rv_report.proofs.Pieces.{lacks, lacks-append, before_at, after_at}
use Rattle.rv_report.proofs.Words.{lacks-decimal, number_of-decimal}
use Rattle.rv_report.proofs.Spelled.{lacks-name, same_name}

-- numbers and a stamp that a last line can have
pub record IsSearchedPart (s : Shard) : Type 0 where
  pub jobs : s.jobs ≤ max_jobs
  pub number : s.number ≤ max_jobs
  pub shards : s.shards ≤ max_jobs
  pub stamp : is_name s.stamp ≡ true

abbrev pub HasNumbers : Extent → Type 0
HasNumbers extent.Whole = Unit {0}
HasNumbers (extent.Selection jobs) = jobs ≤ max_jobs
HasNumbers (extent.Shard s) = IsSearchedPart s

pub is_part : (s : Shard) → is_valid_shard s ≡ true → IsSearchedPart s
unfolding is_valid_shard
is_part s h =
    let a = and_parts (nat_le 1 s.number) (nat_le s.number s.shards && (nat_le s.shards max_jobs
    && (nat_le s.jobs max_jobs && is_name s.stamp))) h in
    let b = and_parts (nat_le s.number s.shards) (nat_le s.shards max_jobs
    && (nat_le s.jobs max_jobs && is_name s.stamp)) a.1 in
    let c = and_parts (nat_le s.shards max_jobs) (nat_le s.jobs max_jobs && is_name s.stamp) b.1 in
    let d = and_parts (nat_le s.jobs max_jobs) (is_name s.stamp) c.1 in
    let number : s.number ≤ s.shards = grind (arith, nat_tests) in
    let shards : s.shards ≤ max_jobs = grind (arith, nat_tests) in
    let jobs : s.jobs ≤ max_jobs = grind (arith, nat_tests) in
    record { jobs = jobs; number = omega arith; shards = shards; stamp = d.1 }

pub prove_row_has_numbers : (e : Extent) (ns : List ℕ) → matches_job_numbers e ns ≡ true → HasNumbers e
unfolding matches_job_numbers
prove_row_has_numbers extent.Whole ns h = tt
prove_row_has_numbers (extent.Selection jobs) ns h =
    let first = (and_parts (nat_le jobs max_jobs) (are_increasing 0 jobs ns) h).0 in grind (arith, nat_tests)
prove_row_has_numbers (extent.Shard s) ns h =
    is_part s (and_parts (is_valid_shard s) (are_evenly_spaced s.number s.shards s.jobs ns) h).0

-- ---- the line without its line feed

abbrev pub last_words : Extent → ℕ → List ℕ
last_words extent.Whole count = codes "done " ++ decimal count
last_words (extent.Selection jobs) count = part_text count jobs
last_words (extent.Shard s) count = part_text count s.jobs ++ shard_text s

pub last_is_line : (e : Extent) (count : ℕ) → extent_line e count ≡ line (last_words e count)
unfolding extent_line done_line
last_is_line extent.Whole count = refl
last_is_line (extent.Selection jobs) count = refl
last_is_line (extent.Shard s) count = refl

lacks-part : (byte count jobs : ℕ) → lacks byte (codes "part ") ≡ true → lacks byte (codes " of ") ≡ true → byte < 48
    → count < 2 ^ 32 → jobs ≤ max_jobs → lacks byte (part_text count jobs) ≡ true
lacks-part byte count jobs p o low few small =
    lacks-append byte (codes "part ") (decimal count ++ codes " of " ++ decimal jobs) p
    (lacks-append byte (decimal count ++ codes " of ") (decimal jobs)
    (lacks-append byte (decimal count) (codes " of ") (lacks-decimal byte count low (omega arith)) o)
    (lacks-decimal byte jobs low (omega arith)))

lacks-shard : (s : Shard) → IsSearchedPart s → lacks 10 (shard_text s) ≡ true
lacks-shard s is =
    let number = decimal s.number in
    let shards = decimal s.shards in
    let hn = is.number in
    let hs = is.shards in
    let s1 = number ++ codes "/" in
    let s2 = s1 ++ shards in
    let s3 = s2 ++ codes " stamp " in
    let l1 : lacks 10 s1 ≡ true =
    lacks-append 10 number (codes "/") (lacks-decimal 10 s.number (omega arith) (omega arith)) refl in
    let l2 : lacks 10 s2 ≡ true =
    lacks-append 10 s1 shards l1 (lacks-decimal 10 s.shards (omega arith) (omega arith)) in
    let l3 : lacks 10 s3 ≡ true = lacks-append 10 s2 (codes " stamp ") l2 refl in
    lacks-append 10 s3 s.stamp l3 (lacks-name s.stamp is.stamp)

pub lacks-last : (e : Extent) (count : ℕ) → HasNumbers e → count < 2 ^ 32 → lacks 10 (last_words e count) ≡ true
lacks-last extent.Whole count h few = lacks-decimal 10 count (omega arith) (omega arith)
lacks-last (extent.Selection jobs) count h few = lacks-part 10 count jobs refl refl (omega arith) few h
lacks-last (extent.Shard s) count h few =
    lacks-append 10 (part_text count s.jobs) (shard_text s)
    (lacks-part 10 count s.jobs refl refl (omega arith) few h.jobs)
    (lacks-shard s h)

-- ---- what it says

-- a byte that is not there
place_of_none : (byte : ℕ) (xs : List ℕ) → lacks byte xs ≡ true → index_of_byte byte xs ≡ length xs
unfolding index_of_byte
place_of_none byte [] h = refl
place_of_none byte (b ∷ bs) h =
    let parts = and_parts (not (b == byte)) (lacks byte bs) h in
    let other : (b == byte) ≡ false = grind arith in
    ap (λ (t : Bool). cond t 0 (index_of_byte byte bs + 1)) other
    ∙ ap (λ (n : ℕ). n + 1) (place_of_none byte bs parts.1) ∙ omega arith

take_length : (xs : List ℕ) → take (length xs) xs ≡ xs
take_length [] = refl
take_length (x ∷ xs) = ap (λ (t : List ℕ). x ∷ t) (take_length xs)

drop_past : (xs : List ℕ) → drop (suc (length xs)) xs ≡ []
drop_past [] = refl
drop_past (x ∷ xs) = drop_past xs

before_none : (byte : ℕ) (xs : List ℕ) → lacks byte xs ≡ true → text_before_byte byte xs ≡ xs
before_none byte xs h = ap (λ (n : ℕ). take n xs) (place_of_none byte xs h) ∙ take_length xs

after_none : (byte : ℕ) (xs : List ℕ) → lacks byte xs ≡ true → text_after_byte byte xs ≡ []
after_none byte xs h =
    ap (λ (n : ℕ). drop n xs) (ap (λ (n : ℕ). n + 1) (place_of_none byte xs h) ∙ add-one (length xs)) ∙ drop_past xs

-- the number of jobs and what follows it
abbrev extent_from : List ℕ → List ℕ → Extent
extent_from jobs shard =
    cond (length shard == 0) (Selection (decimal_number jobs)) (shard_of_text (decimal_number jobs) shard)

choice_regroup : (count jobs : List ℕ) → count ++ codes " of " ++ jobs ≡ count ++ 32 ∷ (codes "of " ++ jobs)
choice_regroup count jobs = simp append_assoc

choice_is : (count jobs : ℕ) → count < 2 ^ 32 → jobs ≤ max_jobs → part_extent_of_line (part_text count jobs) ≡ Selection jobs
unfolding part_extent_of_line
choice_is count jobs few small =
    let js = decimal jobs in
    let rest = codes "of " ++ js in
    let plain : lacks 32 js ≡ true = lacks-decimal 32 jobs (omega arith) (omega arith) in
    let from : List ℕ → Extent = λ t. extent_from (text_before_byte 32 (drop 3 (text_after_byte 32 t)))
    (drop 6 (text_after_byte 32 (drop 3 (text_after_byte 32 t)))) in
    ap from (choice_regroup (decimal count) js)
    ∙ ap (λ (t : List ℕ). extent_from (text_before_byte 32 (drop 3 t)) (drop 6 (text_after_byte 32 (drop 3 t))))
    (after_at 32 (decimal count) rest (lacks-decimal 32 count (omega arith) (omega arith)))
    ∙ ap (λ (t : List ℕ). extent_from (text_before_byte 32 js) (drop 6 t)) (after_none 32 js plain)
    ∙ ap (λ (t : List ℕ). Selection (decimal_number t)) (before_none 32 js plain)
    ∙ ap Selection (number_of-decimal jobs (omega arith))

shard_regroup : (n jobs number shards stamp : List ℕ)
    → n ++ codes " of " ++ jobs ++ (codes " shard " ++ number ++ codes "/" ++ shards ++ codes " stamp " ++ stamp)
    ≡ n ++ 32 ∷ (codes "of " ++ (jobs ++ 32 ∷ (codes "shard " ++
    (number ++ 47 ∷ (shards ++ 32 ∷ (codes "stamp " ++ stamp))))))
shard_regroup n jobs number shards stamp = simp append_assoc

abbrev shard_made : ℕ → ℕ → ℕ → List ℕ → Extent
shard_made jobs number shards stamp =
    extent.Shard (record { jobs = jobs; number = number; shards = shards; stamp = name_or_dash stamp })

shard_says : (jobs : ℕ) (s : Shard) → IsSearchedPart s
    → shard_of_text jobs (decimal s.number ++ 47 ∷ (decimal s.shards ++ 32 ∷ (codes "stamp " ++ s.stamp)))
    ≡ extent.Shard (record s { jobs = jobs })
unfolding shard_of_text
shard_says jobs s is =
    let number = decimal s.number in
    let shards = decimal s.shards in
    let t4 = codes "stamp " ++ s.stamp in
    let t3 = shards ++ 32 ∷ t4 in
    let t2 = number ++ 47 ∷ t3 in
    let hn = is.number in
    let hs = is.shards in
    let plain : lacks 47 number ≡ true = lacks-decimal 47 s.number (omega arith) (omega arith) in
    let spaced : lacks 32 shards ≡ true = lacks-decimal 32 s.shards (omega arith) (omega arith) in
    ap (λ (t : List ℕ). shard_made jobs (decimal_number (text_before_byte 47 t2)) (decimal_number (text_before_byte 32 t)) (drop 6 (text_after_byte 32 t)))
    (after_at 47 number t3 plain)
    ∙ ap (λ (t : List ℕ). shard_made jobs (decimal_number (text_before_byte 47 t2)) (decimal_number (text_before_byte 32 t3)) (drop 6 t))
    (after_at 32 shards t4 spaced)
    ∙ ap (λ (t : List ℕ). shard_made jobs (decimal_number t) (decimal_number (text_before_byte 32 t3)) s.stamp)
    (before_at 47 number t3 plain)
    ∙ ap (λ (t : List ℕ). shard_made jobs (decimal_number number) (decimal_number t) s.stamp) (before_at 32 shards t4 spaced)
    ∙ ap (λ (t : ℕ). shard_made jobs t (decimal_number shards) s.stamp) (number_of-decimal s.number (omega arith))
    ∙ ap (λ (t : ℕ). shard_made jobs s.number t s.stamp) (number_of-decimal s.shards (omega arith))
    ∙ ap (λ (t : List ℕ). extent.Shard (record { jobs = jobs; number = s.number; shards = s.shards; stamp = t }))
    (same_name s.stamp is.stamp)

longer : (xs : List ℕ) (b : ℕ) (ys : List ℕ) → (length (xs ++ b ∷ ys) == 0) ≡ false
longer [] b ys = grind arith
longer (x ∷ xs) b ys = grind arith

shard_is : (count : ℕ) (s : Shard) → IsSearchedPart s → count < 2 ^ 32
    → part_extent_of_line (part_text count s.jobs ++ shard_text s) ≡ extent.Shard s
unfolding part_extent_of_line
shard_is count s is few =
    let n = decimal count in
    let jobs = decimal s.jobs in
    let t2 = decimal s.number ++ 47 ∷ (decimal s.shards ++ 32 ∷ (codes "stamp " ++ s.stamp)) in
    let t1 = jobs ++ 32 ∷ (codes "shard " ++ t2) in
    let hj = is.jobs in
    let plain : lacks 32 jobs ≡ true = lacks-decimal 32 s.jobs (omega arith) (omega arith) in
    let from : List ℕ → Extent = λ t. extent_from (text_before_byte 32 (drop 3 (text_after_byte 32 t)))
    (drop 6 (text_after_byte 32 (drop 3 (text_after_byte 32 t)))) in
    ap from (shard_regroup n jobs (decimal s.number) (decimal s.shards) s.stamp)
    ∙ ap (λ (t : List ℕ). extent_from (text_before_byte 32 (drop 3 t)) (drop 6 (text_after_byte 32 (drop 3 t))))
    (after_at 32 n (codes "of " ++ t1) (lacks-decimal 32 count (omega arith) (omega arith)))
    ∙ ap (λ (t : List ℕ). extent_from (text_before_byte 32 t1) (drop 6 t)) (after_at 32 jobs (codes "shard " ++ t2) plain)
    ∙ ap (λ (t : List ℕ). extent_from t t2) (before_at 32 jobs (codes "shard " ++ t2) plain)
    ∙ ap (λ (b : Bool). cond b (Selection (decimal_number jobs)) (shard_of_text (decimal_number jobs) t2))
    (longer (decimal s.number) 47 (decimal s.shards ++ 32 ∷ (codes "stamp " ++ s.stamp)))
    ∙ ap (λ (k : ℕ). shard_of_text k t2) (number_of-decimal s.jobs (omega arith))
    ∙ shard_says s.jobs s is

part_says : (text : List ℕ) (numbers : List ℕ) (rows : List Row) (e : Extent) → part_extent_of_line (codes "part " ++ text) ≡ e
    → with_line (codes "part " ++ text) (state_between_rows numbers rows Whole) ≡ with_stage_done (state_between_rows numbers rows e)
unfolding with_line after_job_or_last_line state_between_rows
part_says text numbers rows e is = ap (λ (x : Extent). with_stage_done (state_between_rows numbers rows x)) is

done_says : (text numbers : List ℕ) (rows : List Row)
    → with_line (codes "done " ++ text) (state_between_rows numbers rows Whole) ≡ with_stage_done (state_between_rows numbers rows Whole)
unfolding with_line after_job_or_last_line state_between_rows
done_says text numbers rows = refl

pub last_says : (e : Extent) (count : ℕ) (numbers : List ℕ) (rows : List Row) → HasNumbers e → count < 2 ^ 32
    → with_line (last_words e count) (state_between_rows numbers rows Whole) ≡ with_stage_done (state_between_rows numbers rows e)
last_says extent.Whole count numbers rows h few = done_says (decimal count) numbers rows
last_says (extent.Selection jobs) count numbers rows h few =
    part_says (decimal count ++ codes " of " ++ decimal jobs) numbers rows (Selection jobs) (choice_is count jobs few h)
last_says (extent.Shard s) count numbers rows h few =
    part_says ((decimal count ++ codes " of " ++ decimal s.jobs) ++ shard_text s) numbers rows (extent.Shard s)
    (shard_is count s h few)
