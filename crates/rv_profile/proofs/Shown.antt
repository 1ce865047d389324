-- What is shown of one image more.
use Rattle.std.proofs.Common.{◌≡◌, ◌∙◌, ◌+◌, ◌<◌, ◌≤◌, ◌∷◌, ◌++◌, [], ℕ, List, Result, Ok, Err, ap, append-nil, append_assoc, get_or, length, refl, subst, sym, take}
use Rattle.std.proofs.lemmas.List.{map-append, take_all, take_more}
use Rattle.rv_count_tables.specs.declared.table.CountTable.{CountTable}
use Rattle.rv_cover_view.specs.JobImages.{ImageFileView, image_of_file, images_of_files}
use Rattle.rv_cover_view.specs.declared.image_file.ImageFile.{ImageFile}
use Rattle.std.specs.Prelude.{OnOk}
use Rattle.rv_profile.specs.ProfileText.{AreImageProfileTexts, IsImageProfileText}
use Rattle.rv_profile.specs.declared.format.ProfileFormat.{ProfileFormat}

shown_more : (format : ProfileFormat) (table : CountTable) (images : List ImageFileView) (image : ImageFileView) (lines line : List ℕ)
    → AreImageProfileTexts format table images lines → IsImageProfileText format table image line → AreImageProfileTexts format table (images ++ image ∷ []) (lines ++ line)
shown_more format table [] image lines line shown one = (line, (one, ([], (refl, rw shown (sym (append-nil line))))))
shown_more format table (first ∷ images) image lines line shown one = (
  shown.0,
  (
    shown.1.0,
    (
      shown.1.1.0 ++ line,
      (
        shown_more format table images image shown.1.1.0 line shown.1.1.1.0 one,
        ap (λ text. text ++ line) shown.1.1.1.1 ∙ append_assoc shown.0 shown.1.1.0 line,
      ),
    ),
  ),
)

-- of the images so far, and one more
pub file_more : (format : ProfileFormat) (table : CountTable) (files : List ImageFile) (i : ℕ) (file : ImageFile) (lines line : List ℕ)
    → i < length files → file ≡ get_or files i file → AreImageProfileTexts format table (images_of_files (take i files)) lines
    → IsImageProfileText format table (image_of_file file) line → AreImageProfileTexts format table (images_of_files (take (i + 1) files)) (lines ++ line)
file_more format table files i file lines line lt is shown one =
    subst (λ (images : List ImageFileView). AreImageProfileTexts format table images (lines ++ line))
    (sym (ap images_of_files (take_more files i file lt) ∙ map-append image_of_file (take i files) (get_or files i file ∷ [])))
    (shown_more format table (images_of_files (take i files)) (image_of_file (get_or files i file)) lines line shown
    (subst (λ (f : ImageFile). IsImageProfileText format table (image_of_file f) line) is one))

-- of all of them
pub all_shown : (format : ProfileFormat) (table : CountTable) (files : List ImageFile) (i : ℕ) (lines : List ℕ) → length files ≤ i
    → AreImageProfileTexts format table (images_of_files (take i files)) lines → AreImageProfileTexts format table (images_of_files files) lines
all_shown format table files i lines all shown =
    subst (λ (fs : List ImageFile). AreImageProfileTexts format table (images_of_files fs) lines) (take_all i files all) shown

pub on_ok : {X Y : Type 0} (r : Result X Y) (P Q : Type 0) → (P → Q) → OnOk r P → OnOk r Q
on_ok (Ok x) P Q more holds = more holds
on_ok (Err e) P Q more holds = tt
