-- The state in which the run of a job begins, and the job's image.
use Rattle.std.proofs.Common.{◌≡◌, ◌∙◌, ◌%◌, ◌==◌, ◌&&◌, ℕ, Bool, true, false, not, List, Option, Some, None, Result, Ok, Err, option_map, refl, sym, ap}
use Rattle.std.specs.Prelude.{is_ok}
use Rattle.std.specs.Result.{result_ok}
use Rattle.rv_trace.proofs.Public.{entry_aligned, entry_even}
use Rattle.rv_trace.specs.declared_elf_error.ImageError.{ImageError}
use Rattle.rv_trace.specs.declared_image.Image.{Image}
use Rattle.rv_trace.specs.Image.{image_of}
use Rattle.rv_trace.specs.Loading.{map_check}
use Rattle.rv_trace.specs.Extensions.{has_extension, RV32C}
use Rattle.rv_trace.specs.declared_isa.Isa.{Isa}
use Rattle.rv_trace.specs.Jobs.{console_path}
use Rattle.rv_trace.specs.Plans.{result_or_unreadable}
use Rattle.rv_trace.specs.Parsing.{◌>>=◌}
use Rattle.rv_trace.specs.declared_answers.PathResult.{PathResult}
use Rattle.rv_trace.specs.declared_kept.Kept.{Kept}
use Rattle.rv_trace.specs.declared_kept.Kept.TheVariants as kept
use Rattle.rv_trace.specs.declared_job.Job.{Job}
use Rattle.rv_trace.specs.State.{State, reset_state, is_misaligned}
use Rattle.rv_trace.specs.Bus.{BusContents}
use Rattle.rv_trace.specs.declared_outcome.LoadableImage.{LoadableImage}
use Rattle.rv_trace.specs.declared_row.Refusal.{Refusal}
use Rattle.rv_trace.specs.Outcome.{image_file_or_refusal, loadable_image, loaded_contents, loaded_state, range_if_requested, reference_or_refusal, start_if_loadable, start_if_readable, start_of}
use Rattle.rv_trace.specs.Rows.{content_if_read, image_if_read, image_in, start_state_in}
use Rattle.rv_session.specs.declared_start.Start.{Start}
use Rattle.rv_session.specs.Sessions.{at_start}
use Rattle.rv_session.specs.declared.session.Session.{Session}
use Rattle.rv_gdb.specs.JobSessions.{IsSessionOf}
use Rattle.rv_trace.specs.Trace.{image_bytes}

-- the bytes of the image were read, and the run begins at its entry
pub record IsBegun (job : Job) (bytes : Option (List ℕ)) (s : State) : Type 0 where
  pub file : List ℕ
  pub image : Image
  pub there : bytes ≡ Some file
  pub read : image_of job.isa file ≡ Ok image
  pub state : s ≡ loaded_state job file image

-- a second step that was reached: the first gave a value
stepped : {E A B : Type 0} (r : Result A E) (f : A → Result B E) (y : B) → (r >>= f) ≡ Ok y
    → (x : A) × (r ≡ Ok x) × (f x ≡ Ok y)
stepped (Ok x) f y e = (x, refl, e)
stepped (Err why) f y e = cc

-- an image that was read is one
read_as : (isa : Isa) (file : List ℕ) (image : Image) → result_ok (image_of isa file) ≡ Some image → image_of isa file ≡ Ok image
read_as isa file image = ok_of (image_of isa file) image
  where
    ok_of : (r : Result Image ImageError) (image : Image) → result_ok r ≡ Some image → r ≡ Ok image
    ok_of (Ok x) image e = let same : x ≡ image = cc in ap (λ (i : Image). Ok i) same
    ok_of (Err why) image e = cc

module _ (job : Job) (s : State) where
  loaded : (file : List ℕ) (r : Result LoadableImage ImageError) → start_if_loadable job file r ≡ Ok s
      → (l : LoadableImage) × (r ≡ Ok l) × (s ≡ loaded_state job file l.image)
  loaded file (Ok l) e = let same : loaded_state job file l.image ≡ s = cc in (l, refl, sym same)
  loaded file (Err why) e = cc

  image_read : (file : List ℕ) (l : LoadableImage) → loadable_image job file ≡ Ok l → image_of job.isa file ≡ Ok l.image
  unfolding loadable_image
  image_read file l e =
      let image = stepped (image_of job.isa file) _ l e in
      let fits = stepped (map_check image.0.segments job.regions job.load) _ l image.2 in
      let range = stepped (range_if_requested file job.regions job.signature) _ l fits.2 in
      let made : LoadableImage = record { image = image.0; range = range.0 } in
      let same : made ≡ l = cc (range.2) in
      image.1 ∙ ap (λ (x : LoadableImage). Ok x.image) same

  begun_in_file : (file : List ℕ) → start_if_loadable job file (loadable_image job file) ≡ Ok s
      → IsBegun job (Some file) s
  begun_in_file file e =
      let found = loaded file (loadable_image job file) e in record {
        file = file;
        image = found.0.image;
        there = refl;
        read = image_read file found.0 found.1;
        state = found.2;
      }

  with_file : (file : List ℕ) (lines bytes : Result (Option (List ℕ)) Refusal)
      → start_if_readable job (lines >>= (λ _. bytes >>= (λ _. Ok file))) ≡ Ok s → IsBegun job (Some file) s
  with_file file (Ok lines) (Ok bytes) e = begun_in_file file e
  with_file file (Ok lines) (Err why) e = cc
  with_file file (Err why) bytes e = cc

  executed_of : (image : Kept) (reference console : Option Kept) → start_of job image reference console ≡ Ok s
      → IsBegun job (content_if_read (Some image)) s
  unfolding start_of image_file_or_refusal
  executed_of (kept.Content file) reference console e =
      with_file file (reference_or_refusal reference) (reference_or_refusal console) e
  executed_of kept.Unreadable reference console e = cc
  executed_of kept.TooLong reference console e = cc

  pub begun : (answers : List PathResult) → start_state_in answers job ≡ Ok s → IsBegun job (image_bytes answers job) s
  begun answers e = executed_of (result_or_unreadable answers job.image) (option_map (result_or_unreadable answers) job.expect_signature)
      (option_map (result_or_unreadable answers) (console_path job.expect_console)) e

  -- it begins at the entry of the image that was read
  pub begun_at : (answers : List PathResult) (image : Image) → start_state_in answers job ≡ Ok s → image_in answers job ≡ Some image
      → s ≡ reset_state s.bus image.entry job.isa
  begun_at answers image e there =
      let b = begun answers e in
      let found : image_if_read job.isa (Some b.file) ≡ Some image =
      ap (λ (bytes : Option (List ℕ)). image_if_read job.isa bytes) (sym b.there) ∙ there in
      let read = ap (λ (r : Result Image ImageError). result_ok r) (sym b.read) ∙ found in
      let same : b.image ≡ image = cc in
      let loaded : s ≡ loaded_state job b.file image = b.state ∙ ap (λ (i : Image). loaded_state job b.file i) same in
      let bus : loaded_contents job b.file image ≡ s.bus = sym (ap (λ (t : State). t.bus) loaded) in
      loaded ∙ ap (λ (held : BusContents). reset_state held image.entry job.isa) bus

-- an answer that is no state
not_ok : {A E : Type 0} (r : Result A E) → ((x : A) → r ≡ Ok x → ⊥) → is_ok r ≡ false
not_ok (Ok x) never = absurd (never x refl)
not_ok (Err why) never = refl

-- a job without an image has no run
pub no_bytes : (answers : List PathResult) (job : Job) → image_bytes answers job ≡ None → is_ok (start_state_in answers job) ≡ false
no_bytes answers job none = not_ok (start_state_in answers job) (λ s e. let there = (begun job s answers e).there in cc)

pub no_image : (answers : List PathResult) (job : Job) (file : List ℕ) → image_bytes answers job ≡ Some file
    → result_ok (image_of job.isa file) ≡ None → is_ok (start_state_in answers job) ≡ false
no_image answers job file bytes none = not_ok (start_state_in answers job) (λ s e.
    let b = begun job s answers e in
    let there = b.there in
    let same : b.file ≡ file = cc in
    let read = ap (image_of job.isa) (sym same) ∙ b.read in
    let some = ap result_ok read in
    cc)

-- the entry of an image that was read
pub even_of : (answers : List PathResult) (job : Job) (image : Image) (file : List ℕ) → image_bytes answers job ≡ Some file
    → image_in answers job ≡ Some image → image.entry % 2 ≡ 0
even_of answers job image file bytes there =
    let found = ap (λ (bytes : Option (List ℕ)). image_if_read job.isa bytes) (sym bytes) ∙ there in
    entry_even job.isa file image (read_as job.isa file image found)

-- an entry that an instruction of the set may have
entry_fits : (isa : Isa) (entry : ℕ) → (has_extension isa RV32C ≡ false → entry % 4 ≡ 0) → is_misaligned isa entry ≡ false
entry_fits isa entry h = go (has_extension isa RV32C) refl
  where
    go : (b : Bool) → has_extension isa RV32C ≡ b → (not b && not (entry % 4 == 0)) ≡ false
    go true is = refl
    go false is = rw (h is) refl

pub aligned_of : (answers : List PathResult) (job : Job) (image : Image) (file : List ℕ) → image_bytes answers job ≡ Some file
    → image_in answers job ≡ Some image → is_misaligned job.isa image.entry ≡ false
aligned_of answers job image file bytes there =
    let found = ap (λ (bytes : Option (List ℕ)). image_if_read job.isa bytes) (sym bytes) ∙ there in
    entry_fits job.isa image.entry (entry_aligned job.isa file image (read_as job.isa file image found))

-- a session over a start that is the state in which the run of a job begins
pub opened : (answers : List PathResult) (job : Job) (image : Image) (s : State) (start : Start) (budget : ℕ) (path bytes : List ℕ)
    (session : Session) → start_state_in answers job ≡ Ok s → image_in answers job ≡ Some image → image_bytes answers job ≡ Some bytes
    → start.bus ≡ s.bus → start.entry ≡ image.entry → start.isa ≡ job.isa → budget ≡ job.budget
    → session ≡ at_start start budget (record { path = path; image = bytes }) → IsSessionOf answers job path session
opened answers job image s start budget path bytes session begins there read bus entry isa same is = record {
  start = start;
  start_is = begins ∙ ap (λ (t : State). Ok t) (begun_at job s answers image begins there
      ∙ (λ i. reset_state (sym bus i) (sym entry i) (sym isa i)));
  image = bytes;
  image_is = read;
  session_is = is ∙ ap (λ (n : ℕ). at_start start n (record { path = path; image = bytes })) same;
}
