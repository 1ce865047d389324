-- The first image of which a table has counts of another.
use Rattle.std.proofs.Common.{◌≡◌, ◌∙◌, ◌<◌, ◌≤◌, ◌∷◌, [], ℕ, Bool, true, false, List, Option, Some, None, ap, cond, find, get_or, length, map, option_map, refl, subst, sym, take}
use Rattle.std.proofs.lemmas.List.{take_all}
use Rattle.rv_count_tables.specs.declared.table.CountTable.{CountTable}
use Rattle.rv_cover_view.proofs.FirstFound.{found_first}
use Rattle.rv_cover_view.specs.ImageCounts.{has_other_image_at_path, other_image}
use Rattle.rv_cover_view.specs.JobImages.{ImageFileView, image_of_file, images_of_files}
use Rattle.rv_cover_view.specs.declared.image_file.ImageFile.{ImageFile}

find_map : {X Y : Type 0} (test : Y → Bool) (h : X → Y) (xs : List X) → find test (map h xs) ≡ option_map h (find (λ x. test (h x)) xs)
find_map test h [] = refl
find_map test h (x ∷ xs) = elim (test (h x))
    as (λ b. cond b (Some (h x)) (find test (map h xs)) ≡ option_map h (cond b (Some x) (find (λ y. test (h y)) xs))) [
      | true ↦ refl
      | false ↦ find_map test h xs
    ]

abbrev pub is_other : CountTable → ImageFile → Bool
is_other table file = has_other_image_at_path table (image_of_file file)

of_found : (table : CountTable) (files : List ImageFile) (found : Option ImageFile) → find (is_other table) files ≡ found
    → other_image table (images_of_files files) ≡ option_map (λ file. file.path.now) found
of_found table files found is =
    ap (λ (o : Option ImageFileView). option_map (λ image. image.path) o) (find_map (has_other_image_at_path table) image_of_file files)
    ∙ ap (λ (o : Option ImageFile). option_map (λ image. image.path) (option_map image_of_file o)) is
    ∙ same found
  where
    same : (o : Option ImageFile) → option_map (λ image. image.path) (option_map image_of_file o) ≡ option_map (λ file. file.path.now) o
    same None = refl
    same (Some file) = refl

-- where none was found so far, it is this one
pub other_here : (table : CountTable) (files : List ImageFile) (i : ℕ) (d : ImageFile) → i < length files
    → find (is_other table) (take i files) ≡ None → is_other table (get_or files i d) ≡ true
    → Some (get_or files i d).path.now ≡ other_image table (images_of_files files)
other_here table files i d lt none is = sym (of_found table files (Some (get_or files i d)) (found_first (is_other table) files i d lt none is))

-- or none at all
pub no_other : (table : CountTable) (files : List ImageFile) (i : ℕ) → length files ≤ i → find (is_other table) (take i files) ≡ None
    → None ≡ other_image table (images_of_files files)
no_other table files i all none =
    sym (of_found table files None (subst (λ (fs : List ImageFile). find (is_other table) fs ≡ None) (take_all i files all) none))
