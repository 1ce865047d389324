-- The files of a plan are small, the counts that are taken are a table, and the lines of one job more.
use Rattle.std.proofs.Common.{◌≡◌, ◌∙◌, ◌+◌, ◌<◌, ◌≤◌, ◌∷◌, ◌++◌, [], ℕ, Bool, true, false, List, Option, Some, None, IfSome, ap, append-nil, get_or, length, refl, sym, take}
use Rattle.std.specs.List.{flat_map}
use Rattle.std.specs.Prelude.{slice_index_or}
use Rattle.std.specs.Str.{bytes_eq}
use Rattle.std.proofs.lemmas.Grind.{flat_map-append}
use Rattle.std.proofs.lemmas.List.{map-append, take_more}
use Rattle.std.proofs.lemmas.List.Elements.{All-head, All-tail}
use Rattle.rv_files.specs.Files.{FileContents}
use Rattle.rv_files.specs.Limits.{max_file_size}
use Rattle.rv_count_tables.specs.Table.{IsValidTable}
use Rattle.rv_count_tables.specs.declared.table.CountTable.{CountTable}
use Rattle.rv_profile.specs.JobImages.{AreSmall}
use Rattle.rv_stacks.specs.JobTables.{jobs_at}
use Rattle.rv_expect.specs.Judgement.{JudgeView}
use Rattle.rv_files.specs.declared.recording_store.UnreadablePath.{UnreadablePath}
use Rattle.rv_rows.specs.Jobs.{single_job}
use Rattle.rv_rows.specs.Kept.{AgreesWithContents}
use Rattle.rv_rows.specs.Plans.{AgreeWithContents, PlanView, result_or_unreadable}
use Rattle.rv_rows.specs.declared_answers.PathResult.{PathResult}
use Rattle.rv_rows.specs.declared_kept.Kept.{Kept}
use Rattle.rv_rows.specs.declared_kept.Kept.TheVariants as kept
use Rattle.rv_rows.specs.Rows.{content_if_read}
use Rattle.rvtest_app.specs.RefusedNotes.{line_if_refused, refused_lines}
use Rattle.rvtest_app.specs.Views.{IsRunTableForView, IsTableForView}
use Rattle.rvtest_app.specs.declared.view.View.{View}
use Rattle.rvtest_app.specs.declared.view.View.TheVariants as view

-- ---- lines

jobs_more : (plan : PlanView) (indices : List ℕ) (i index : ℕ) → i < length indices → index ≡ get_or indices i index
    → jobs_at plan (take (i + 1) indices) ≡ jobs_at plan (take i indices) ++ slice_index_or plan.jobs index (single_job [] 0 []) ∷ []
jobs_more plan indices i index lt is =
    ap (jobs_at plan) (take_more indices i index lt)
    ∙ map-append _ (take i indices) (get_or indices i index ∷ [])
    ∙ ap (λ (k : ℕ). jobs_at plan (take i indices) ++ jobs_at plan (k ∷ [])) (sym is)

pub refused_more : (judging : JudgeView) (plan : PlanView) (unread : List UnreadablePath) (indices : List ℕ) (i index : ℕ) → i < length indices
    → index ≡ get_or indices i index
    → refused_lines judging plan unread (take (i + 1) indices)
    ≡ refused_lines judging plan unread (take i indices) ++ line_if_refused judging plan unread (slice_index_or plan.jobs index (single_job [] 0 []))
refused_more judging plan unread indices i index lt is =
    ap (λ js. flat_map (line_if_refused judging plan unread) js) (jobs_more plan indices i index lt is)
    ∙ flat_map-append (line_if_refused judging plan unread) (jobs_at plan (take i indices)) (slice_index_or plan.jobs index (single_job [] 0 []) ∷ [])
    ∙ ap (λ text. refused_lines judging plan unread (take i indices) ++ text) (append-nil _)

-- ---- files

content_small : (contents : Option FileContents) (path : List ℕ) (k : Kept) → AgreesWithContents contents path k
    → IfSome (content_if_read (Some k)) (λ bytes. length bytes ≤ max_file_size)
content_small contents path (kept.Content bytes) of = of.0
content_small contents path kept.Unreadable of = tt
content_small contents path kept.TooLong of = tt

kept_small_by : (contents : Option FileContents) (path : List ℕ) (answer : PathResult) (answers : List PathResult) (same : Bool)
    → bytes_eq path answer.path ≡ same → AgreesWithContents contents answer.path answer.kept
    → IfSome (content_if_read (Some (result_or_unreadable answers path))) (λ bytes. length bytes ≤ max_file_size)
    → IfSome (content_if_read (Some (result_or_unreadable (answer ∷ answers) path))) (λ bytes. length bytes ≤ max_file_size)
kept_small_by contents path answer answers true same of rest = rw same (content_small contents answer.path answer.kept of)
kept_small_by contents path answer answers false same of rest = rw same rest

kept_small : (contents : Option FileContents) (path : List ℕ) (answers : List PathResult) → AgreeWithContents contents answers
    → IfSome (content_if_read (Some (result_or_unreadable answers path))) (λ bytes. length bytes ≤ max_file_size)
kept_small contents path [] are = tt
kept_small contents path (answer ∷ answers) are =
    kept_small_by contents path answer answers (bytes_eq path answer.path) refl
    (All-head (λ (a : PathResult). AgreesWithContents contents a.path a.kept) answer answers are)
    (kept_small contents path answers (All-tail (λ (a : PathResult). AgreesWithContents contents a.path a.kept) answer answers are))

-- what is kept of paths is not larger than a store reads
pub all_small : (contents : Option FileContents) (answers : List PathResult) → AgreeWithContents contents answers → AreSmall answers
all_small contents answers are job = kept_small contents job.image answers are

-- ---- tables

counted_table : (shown : View) (plan : PlanView) (indices : List ℕ) (table : CountTable) → IsRunTableForView shown plan indices table → IsValidTable table
counted_table (view.Cover csv) plan indices table are = are.table
counted_table (view.Profile format) plan indices table are = are.sum.table

pub table_of_view : (contents : Option FileContents) (shown : View) (path : Option (List ℕ)) (plan : PlanView) (indices : List ℕ)
    (table : CountTable) → IsTableForView contents shown path plan indices table → IsValidTable table
table_of_view contents shown None plan indices table are = counted_table shown plan indices table are
table_of_view contents shown (Some path) plan indices table are = are.at.0
