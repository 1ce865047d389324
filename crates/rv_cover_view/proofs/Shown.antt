-- What is shown of one image more.
use Rattle.std.proofs.Common.{◌≡◌, ◌∙◌, ◌+◌, ◌<◌, ◌≤◌, ◌∷◌, ◌++◌, [], ℕ, Bool, List, ap, append-nil, append_assoc, get_or, length, refl, subst, sym, take}
use Rattle.std.proofs.lemmas.List.{map-append, take_all, take_more}
use Rattle.rv_count_tables.specs.declared.table.CountTable.{CountTable}
use Rattle.rv_cover_view.specs.ImagesText.{AreImageCoverTexts, IsImageCoverText}
use Rattle.rv_cover_view.specs.JobImages.{ImageFileView, image_of_file, images_of_files}
use Rattle.rv_cover_view.specs.declared.image_file.ImageFile.{ImageFile}

shown_more : (csv : Bool) (table : CountTable) (images : List ImageFileView) (image : ImageFileView) (lines line : List ℕ)
    → AreImageCoverTexts csv table images lines → IsImageCoverText csv table image line → AreImageCoverTexts csv table (images ++ image ∷ []) (lines ++ line)
shown_more csv table [] image lines line shown one = (line, (one, ([], (refl, rw shown (sym (append-nil line))))))
shown_more csv table (first ∷ images) image lines line shown one = (
  shown.0,
  (
    shown.1.0,
    (
      shown.1.1.0 ++ line,
      (
        shown_more csv table images image shown.1.1.0 line shown.1.1.1.0 one,
        ap (λ text. text ++ line) shown.1.1.1.1 ∙ append_assoc shown.0 shown.1.1.0 line,
      ),
    ),
  ),
)

-- of the images so far, and one more
pub file_more : (csv : Bool) (table : CountTable) (files : List ImageFile) (i : ℕ) (file : ImageFile) (lines line : List ℕ)
    → i < length files → file ≡ get_or files i file → AreImageCoverTexts csv table (images_of_files (take i files)) lines
    → IsImageCoverText csv table (image_of_file file) line → AreImageCoverTexts csv table (images_of_files (take (i + 1) files)) (lines ++ line)
file_more csv table files i file lines line lt is shown one =
    subst (λ (images : List ImageFileView). AreImageCoverTexts csv table images (lines ++ line))
    (sym (ap images_of_files (take_more files i file lt) ∙ map-append image_of_file (take i files) (get_or files i file ∷ [])))
    (shown_more csv table (images_of_files (take i files)) (image_of_file (get_or files i file)) lines line shown
    (subst (λ (f : ImageFile). IsImageCoverText csv table (image_of_file f) line) is one))

-- of all of them
pub all_shown : (csv : Bool) (table : CountTable) (files : List ImageFile) (i : ℕ) (lines : List ℕ) → length files ≤ i
    → AreImageCoverTexts csv table (images_of_files (take i files)) lines → AreImageCoverTexts csv table (images_of_files files) lines
all_shown csv table files i lines all shown =
    subst (λ (fs : List ImageFile). AreImageCoverTexts csv table (images_of_files fs) lines) (take_all i files all) shown
