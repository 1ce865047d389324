-- What is read is the one table, or the line that is refused is the first.
use Rattle.std.proofs.Common.{◌≡◌, ◌∙◌, ◌+◌, ◌<◌, ◌^◌, ℕ, List, length, drop, ap, sym, subst, refl, arith}
use Rattle.rv_count_tables.specs.declared.table.ImageCounts.{ImageCounts}
use Rattle.rv_count_tables.specs.declared.read.ReadError.{ReadError}
use Rattle.rv_count_tables.specs.Lines.{whole_line}
use Rattle.rv_count_tables.specs.Text.{last_line}
use Rattle.rv_count_tables.specs.ReadSteps.{AreParsedImages}
use Rattle.rv_count_tables.specs.Read.{IsFirstError, IsFirstInvalidLine}
use Rattle.rv_count_tables.proofs.Reading.{one_table}
use Rattle.rv_count_tables.proofs.Refusing.{is_table, no_table_refused}
use Rattle.rv_count_tables.proofs.ReadTable.{behind_images, end_within, same_first, other_first, least_first, no_table_first}
use Rattle.rv_count_tables.proofs.ReadTable.{least_behind, no_table_behind, last_told, whole_text, least_end}
use Rattle.rv_count_tables.proofs.read.read_table.Goals as goal

pub returns-then-ne-clause-accepts : goal.returns-then-ne-clause-accepts
returns-then-ne-clause-accepts c table is text =
    let bytes = c.args.bytes.now in
    let other = other_first c.whole_line.result.now c.as_bytes.result.now bytes c.ne.result c.ne.ensures c.if-ne.true
    c.whole_line.ensures c.as_bytes.ensures.value in
    absurd (no_table_first bytes other table is text)

pub returns-then-ne-clause-first_error : goal.returns-then-ne-clause-first_error
returns-then-ne-clause-first_error c =
    let bytes = c.args.bytes.now in
    let other = other_first c.whole_line.result.now c.as_bytes.result.now bytes c.ne.result c.ne.ensures c.if-ne.true
    c.whole_line.ensures c.as_bytes.ensures.value in
    subst (λ (e : ReadError). IsFirstError e bytes) (sym c.read_error_at.ensures) (least_first bytes other)

pub overflow_add-end : goal.overflow_add-end
overflow_add-end c =
    let bytes = c.args.bytes.now in
    let read = c.in_ok-read.read in
    let place = 11 + read.length in
    let first = same_first c.whole_line.result.now c.as_bytes.result.now bytes c.ne.result c.ne.ensures c.if-ne.false
    c.whole_line.ensures c.as_bytes.ensures.value in
    let lines = subst (λ (s : List ℕ). AreParsedImages s read) c.tail_from.ensures c.in_ok-read.ensures in
    let few : length read.images < 2 ^ 64 =
    subst (λ (is : List ImageCounts). length is < 2 ^ 64) c.as_slice.ensures c.runs_of_last_line.ensures.count_fits in
    let behind = behind_images bytes read place first lines few refl in
    let w = c.whole_line-line.ensures ∙ ap whole_line c.tail_from-2.ensures in
    let within = end_within bytes read.images place behind in
    let same = ap (λ (s : List ℕ). length s) w in
    omega (arith, within, same)

pub returns-in-None-clause-accepts : goal.returns-in-None-clause-accepts
returns-in-None-clause-accepts c table is text =
    let bytes = c.args.bytes.now in
    let read = c.in_ok-read.read in
    let place = 11 + read.length in
    let first = same_first c.whole_line.result.now c.as_bytes.result.now bytes c.ne.result c.ne.ensures c.if-ne.false
    c.whole_line.ensures c.as_bytes.ensures.value in
    let lines = subst (λ (s : List ℕ). AreParsedImages s read) c.tail_from.ensures c.in_ok-read.ensures in
    let few : length read.images < 2 ^ 64 =
    subst (λ (is : List ImageCounts). length is < 2 ^ 64) c.as_slice.ensures c.runs_of_last_line.ensures.count_fits in
    let behind = behind_images bytes read place first lines few refl in
    let w = c.whole_line-line.ensures ∙ ap whole_line c.tail_from-2.ensures in
    let none = rw c.in-None.is at c.in_ok-runs_of_last_line.ensures.none in
    let no_last = λ (r : ℕ) (small : r < 2 ^ 64) (e : whole_line (drop place bytes) ≡ last_line (length read.images) r).
    none r small (w ∙ e ∙ ap (λ (is : List ImageCounts). last_line (length is) r) (sym c.as_slice.ensures)) in
    absurd (no_table_behind bytes read.images place behind no_last table is text)

pub returns-in-None-clause-first_error : goal.returns-in-None-clause-first_error
returns-in-None-clause-first_error c =
    let bytes = c.args.bytes.now in
    let read = c.in_ok-read.read in
    let place = 11 + read.length in
    let first = same_first c.whole_line.result.now c.as_bytes.result.now bytes c.ne.result c.ne.ensures c.if-ne.false
    c.whole_line.ensures c.as_bytes.ensures.value in
    let lines = subst (λ (s : List ℕ). AreParsedImages s read) c.tail_from.ensures c.in_ok-read.ensures in
    let few : length read.images < 2 ^ 64 =
    subst (λ (is : List ImageCounts). length is < 2 ^ 64) c.as_slice.ensures c.runs_of_last_line.ensures.count_fits in
    let behind = behind_images bytes read place first lines few refl in
    let w = c.whole_line-line.ensures ∙ ap whole_line c.tail_from-2.ensures in
    let none = rw c.in-None.is at c.in_ok-runs_of_last_line.ensures.none in
    let no_last = λ (r : ℕ) (small : r < 2 ^ 64) (e : whole_line (drop place bytes) ≡ last_line (length read.images) r).
    none r small (w ∙ e ∙ ap (λ (is : List ImageCounts). last_line (length is) r) (sym c.as_slice.ensures)) in
    subst (λ (e : ReadError). IsFirstError e bytes) (sym c.read_error_at-in-None.ensures)
    (least_behind bytes read.images place behind no_last)

pub returns-then-end-bytes-clause-text : goal.returns-then-end-bytes-clause-text
returns-then-end-bytes-clause-text c =
    let bytes = c.args.bytes.now in
    let read = c.in_ok-read.read in
    let place = 11 + read.length in
    let first = same_first c.whole_line.result.now c.as_bytes.result.now bytes c.ne.result c.ne.ensures c.if-ne.false
    c.whole_line.ensures c.as_bytes.ensures.value in
    let lines = subst (λ (s : List ℕ). AreParsedImages s read) c.tail_from.ensures c.in_ok-read.ensures in
    let few : length read.images < 2 ^ 64 =
    subst (λ (is : List ImageCounts). length is < 2 ^ 64) c.as_slice.ensures c.runs_of_last_line.ensures.count_fits in
    let behind = behind_images bytes read place first lines few refl in
    let w = c.whole_line-line.ensures ∙ ap whole_line c.tail_from-2.ensures in
    let runs = c.in-Some.runs in
    let fits = rw c.in-Some.is at c.in_ok-runs_of_last_line.ensures.fits in
    let line = rw c.in-Some.is at c.in_ok-runs_of_last_line.ensures.line in
    let end = place + length c.whole_line-line.result.now in
    let told = last_told bytes read.images place runs end behind
    (sym w ∙ line ∙ ap (λ (is : List ImageCounts). last_line (length is) runs) c.as_slice.ensures)
    (ap (λ (s : List ℕ). place + length s) w) in
    whole_text bytes read.images runs end told c.if-end-bytes.true

pub returns-then-end-bytes-clause-accepts : goal.returns-then-end-bytes-clause-accepts
returns-then-end-bytes-clause-accepts c table is text =
    let bytes = c.args.bytes.now in
    let read = c.in_ok-read.read in
    let place = 11 + read.length in
    let first = same_first c.whole_line.result.now c.as_bytes.result.now bytes c.ne.result c.ne.ensures c.if-ne.false
    c.whole_line.ensures c.as_bytes.ensures.value in
    let lines = subst (λ (s : List ℕ). AreParsedImages s read) c.tail_from.ensures c.in_ok-read.ensures in
    let few : length read.images < 2 ^ 64 =
    subst (λ (is : List ImageCounts). length is < 2 ^ 64) c.as_slice.ensures c.runs_of_last_line.ensures.count_fits in
    let behind = behind_images bytes read place first lines few refl in
    let w = c.whole_line-line.ensures ∙ ap whole_line c.tail_from-2.ensures in
    let runs = c.in-Some.runs in
    let fits = rw c.in-Some.is at c.in_ok-runs_of_last_line.ensures.fits in
    let line = rw c.in-Some.is at c.in_ok-runs_of_last_line.ensures.line in
    let end = place + length c.whole_line-line.result.now in
    let told = last_told bytes read.images place runs end behind
    (sym w ∙ line ∙ ap (λ (is : List ImageCounts). last_line (length is) runs) c.as_slice.ensures)
    (ap (λ (s : List ℕ). place + length s) w) in
    let whole = whole_text bytes read.images runs end told c.if-end-bytes.true in
    one_table (record { images = read.images; runs = runs }) table (is_table read.images runs behind.are fits) is
    (whole ∙ sym text)

pub returns-else-end-bytes-clause-accepts : goal.returns-else-end-bytes-clause-accepts
returns-else-end-bytes-clause-accepts c table is text =
    let bytes = c.args.bytes.now in
    let read = c.in_ok-read.read in
    let place = 11 + read.length in
    let first = same_first c.whole_line.result.now c.as_bytes.result.now bytes c.ne.result c.ne.ensures c.if-ne.false
    c.whole_line.ensures c.as_bytes.ensures.value in
    let lines = subst (λ (s : List ℕ). AreParsedImages s read) c.tail_from.ensures c.in_ok-read.ensures in
    let few : length read.images < 2 ^ 64 =
    subst (λ (is : List ImageCounts). length is < 2 ^ 64) c.as_slice.ensures c.runs_of_last_line.ensures.count_fits in
    let behind = behind_images bytes read place first lines few refl in
    let w = c.whole_line-line.ensures ∙ ap whole_line c.tail_from-2.ensures in
    let runs = c.in-Some.runs in
    let fits = rw c.in-Some.is at c.in_ok-runs_of_last_line.ensures.fits in
    let line = rw c.in-Some.is at c.in_ok-runs_of_last_line.ensures.line in
    let end = place + length c.whole_line-line.result.now in
    let told = last_told bytes read.images place runs end behind
    (sym w ∙ line ∙ ap (λ (is : List ImageCounts). last_line (length is) runs) c.as_slice.ensures)
    (ap (λ (s : List ℕ). place + length s) w) in
    let within = end_within bytes read.images place behind in
    let same = ap (λ (s : List ℕ). length s) w in
    let other = c.if-end-bytes.false in
    let under : end < length bytes = omega (arith, within, same, other) in
    let least = subst (λ (n : ℕ). IsFirstInvalidLine n bytes) (sym c.line_number_at.ensures)
    (least_end bytes read.images runs end behind.are fits told under) in
    absurd (no_table_refused c.line_number_at.result bytes least table is text)

pub returns-else-end-bytes-clause-first_error : goal.returns-else-end-bytes-clause-first_error
returns-else-end-bytes-clause-first_error c =
    let bytes = c.args.bytes.now in
    let read = c.in_ok-read.read in
    let place = 11 + read.length in
    let first = same_first c.whole_line.result.now c.as_bytes.result.now bytes c.ne.result c.ne.ensures c.if-ne.false
    c.whole_line.ensures c.as_bytes.ensures.value in
    let lines = subst (λ (s : List ℕ). AreParsedImages s read) c.tail_from.ensures c.in_ok-read.ensures in
    let few : length read.images < 2 ^ 64 =
    subst (λ (is : List ImageCounts). length is < 2 ^ 64) c.as_slice.ensures c.runs_of_last_line.ensures.count_fits in
    let behind = behind_images bytes read place first lines few refl in
    let w = c.whole_line-line.ensures ∙ ap whole_line c.tail_from-2.ensures in
    let runs = c.in-Some.runs in
    let fits = rw c.in-Some.is at c.in_ok-runs_of_last_line.ensures.fits in
    let line = rw c.in-Some.is at c.in_ok-runs_of_last_line.ensures.line in
    let end = place + length c.whole_line-line.result.now in
    let told = last_told bytes read.images place runs end behind
    (sym w ∙ line ∙ ap (λ (is : List ImageCounts). last_line (length is) runs) c.as_slice.ensures)
    (ap (λ (s : List ℕ). place + length s) w) in
    let within = end_within bytes read.images place behind in
    let same = ap (λ (s : List ℕ). length s) w in
    let other = c.if-end-bytes.false in
    let under : end < length bytes = omega (arith, within, same, other) in
    subst (λ (n : ℕ). IsFirstInvalidLine n bytes) (sym c.line_number_at.ensures)
    (least_end bytes read.images runs end behind.are fits told under)
