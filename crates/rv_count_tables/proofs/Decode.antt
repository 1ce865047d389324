-- What may stand behind the first lines of a table, a line at a time.
use Rattle.std.proofs.Common.{◌≡◌, ◌∙◌, ◌+◌, ◌<◌, ◌^◌, ℕ, suc, true, List, [], ◌∷◌, ◌++◌, Option, Some, None, length, sym, ap, subst, append_assoc, append-nil, arith}
use Rattle.std.specs.List.{AllByRecursion, flat_map}
use Rattle.rv_count_tables.specs.declared.table.ImageCounts.{ImageCounts}
use Rattle.rv_count_tables.specs.declared.table.CountTable.{CountTable}
use Rattle.rv_count_tables.specs.Lines.{lacks}
use Rattle.rv_count_tables.specs.Table.{is_greater_than_last, digests_increase_from, IsValidImage, IsValidTable}
use Rattle.rv_count_tables.specs.Text.{line, image_line, image_text, last_line}
use Rattle.rv_count_tables.specs.ReadSteps.{Entry, IsValidEntry, entry_line, entries_of, NextLines, after_image_line, before_first_image, after_entry, after_entries, after_images, last_digest, CanComeNext, IsNotAnEntry, IsNotAnImage}
use Rattle.rv_count_tables.proofs.Pieces.{same_cut}
use Rattle.rv_count_tables.proofs.Entries.{entries_fit, entries_stand, image_entries, StandIn}
use Rattle.rv_count_tables.proofs.AddingImages.{image_low, images_behind}
use Rattle.rv_count_tables.proofs.LineTexts.{entry_words, image_words, last_words, entry_is_line, image_is_line, last_is_line, lacks-entry, lacks-image, lacks-last, same_entry_line, same_digest}
use Rattle.rv_count_tables.proofs.LineTexts.{entry_is_no_image, entry_is_not_last, image_is_not_last}

-- texts that are the same have the same first line
pub same_line : (xs ys s t : List ℕ) → lacks 10 xs ≡ true → lacks 10 ys ≡ true → line xs ++ s ≡ line ys ++ t
    → (line xs ≡ line ys) × (s ≡ t)
same_line xs ys s t h k e =
    let p = same_cut 10 xs ys s t h k (sym (append_assoc xs (10 ∷ []) s) ∙ e ∙ append_assoc ys (10 ∷ []) t) in
    (ap line p.0, p.1)

-- what may stand behind so many images, at a place
pub record IsRest (n : ℕ) (last : Option (List ℕ)) (place : NextLines) (text : List ℕ) : Type 0 where
  pub es : List Entry
  pub more : List ImageCounts
  pub runs : ℕ
  pub all : text ≡ flat_map entry_line es ++ (flat_map image_text more ++ last_line (n + length more) runs)
  pub fit : AllByRecursion IsValidEntry es
  pub stand : StandIn place es
  pub images : AllByRecursion IsValidImage more
  pub digests : digests_increase_from last more ≡ true
  pub few : n + length more < 2 ^ 64
  pub fits : runs < 2 ^ 64

-- ---- which line stands first

pub first_entry : (e : Entry) (es : List Entry) (t : List ℕ)
    → flat_map entry_line (e ∷ es) ++ t ≡ entry_line e ++ (flat_map entry_line es ++ t)
first_entry e es t = append_assoc (entry_line e) (flat_map entry_line es) t

pub first_image : (i : ImageCounts) (is : List ImageCounts) (t : List ℕ)
    → flat_map image_text (i ∷ is) ++ t ≡ image_line i ++ (flat_map entry_line (entries_of i) ++ (flat_map image_text is ++ t))
first_image i is t = append_assoc (image_text i) (flat_map image_text is) t
    ∙ ap (λ (s : List ℕ). s ++ (flat_map image_text is ++ t)) (image_entries i)
    ∙ append_assoc (image_line i) (flat_map entry_line (entries_of i)) (flat_map image_text is ++ t)

-- ---- the steps

entry_step : (n : ℕ) (last : Option (List ℕ)) (place : NextLines) (e : Entry) (s : List ℕ)
    (es : List Entry) (more : List ImageCounts) (runs : ℕ) → IsValidEntry e
    → entry_line e ++ s ≡ flat_map entry_line es ++ (flat_map image_text more ++ last_line (n + length more) runs)
    → AllByRecursion IsValidEntry es → StandIn place es → AllByRecursion IsValidImage more
    → digests_increase_from last more ≡ true → n + length more < 2 ^ 64 → runs < 2 ^ 64
    → CanComeNext place e × IsRest n last (after_entry place e) s
entry_step n last place e s [] [] runs h all fit stand images digests few fits =
    absurd (entry_is_not_last e (n + 0) runs s [] (all ∙ sym (append-nil (last_line (n + 0) runs))))
entry_step n last place e s [] (i ∷ is) runs h all fit stand images digests few fits =
    absurd (entry_is_no_image e i s _ (all ∙ first_image i is (last_line (n + length (i ∷ is)) runs)))
entry_step n last place e s (d ∷ ds) more runs h all fit stand images digests few fits =
    let t = flat_map image_text more ++ last_line (n + length more) runs in
    let same = same_line (entry_words e) (entry_words d) s (flat_map entry_line ds ++ t) (lacks-entry e h)
    (lacks-entry d fit.0)
    (ap (λ (x : List ℕ). x ++ s) (sym (entry_is_line e)) ∙ all ∙ first_entry d ds t
    ∙ ap (λ (x : List ℕ). x ++ (flat_map entry_line ds ++ t)) (entry_is_line d)) in
    let one : d ≡ e = same_entry_line d e fit.0 h (entry_is_line d ∙ sym same.0 ∙ sym (entry_is_line e)) in (
      subst (λ (x : Entry). CanComeNext place x) one stand.0,
      record {
        es = ds;
        more = more;
        runs = runs;
        all = same.1;
        fit = fit.1;
        stand = subst (λ (x : Entry). StandIn (after_entry place x) ds) one stand.1;
        images = images;
        digests = digests;
        few = few;
        fits = fits;
      },
    )

one_behind : (n m : ℕ) → n + suc m ≡ n + 1 + m
one_behind n m = omega arith

image_step : (n : ℕ) (last : Option (List ℕ)) (i : ImageCounts) (s : List ℕ)
    (es : List Entry) (more : List ImageCounts) (runs : ℕ) → IsValidImage i
    → image_line i ++ s ≡ flat_map entry_line es ++ (flat_map image_text more ++ last_line (n + length more) runs)
    → AllByRecursion IsValidImage more
    → digests_increase_from last more ≡ true → n + length more < 2 ^ 64 → runs < 2 ^ 64
    → (is_greater_than_last last i.digest ≡ true) × IsRest (n + 1) (Some i.digest) after_image_line s
image_step n last i s (e ∷ es) more runs h all images digests few fits =
    absurd (entry_is_no_image e i _ s
    (sym (all ∙ first_entry e es (flat_map image_text more ++ last_line (n + length more) runs))))
image_step n last i s [] [] runs h all images digests few fits =
    absurd (image_is_not_last i (n + 0) runs s [] (all ∙ sym (append-nil (last_line (n + 0) runs))))
image_step n last i s [] (j ∷ js) runs h all images digests few fits =
    let end = last_line (n + suc (length js)) runs in
    let t = flat_map entry_line (entries_of j) ++ (flat_map image_text js ++ end) in
    let same = same_line (image_words i) (image_words j) s t (lacks-image i h) (lacks-image j images.0)
    (ap (λ (x : List ℕ). x ++ s) (sym (image_is_line i)) ∙ all ∙ first_image j js end
    ∙ ap (λ (x : List ℕ). x ++ t) (image_is_line j)) in
    let one : j.digest ≡ i.digest = same_digest j i images.0 h (image_is_line j ∙ sym same.0 ∙ sym (image_is_line i)) in (
      ap (is_greater_than_last last) (sym one) ∙ image_low last j js digests,
      record {
        es = entries_of j;
        more = js;
        runs = runs;
        all = same.1 ∙ ap (λ (m : ℕ). flat_map entry_line (entries_of j) ++ (flat_map image_text js ++ last_line m runs))
            (one_behind n (length js));
        fit = entries_fit j images.0;
        stand = entries_stand j images.0;
        images = images.1;
        digests = ap (λ (d : List ℕ). digests_increase_from (Some d) js) (sym one) ∙ images_behind last j js digests;
        few = omega arith;
        fits = fits;
      },
    )

pub behind_one : (n : ℕ) (last : Option (List ℕ)) (place : NextLines) (e : Entry) (s : List ℕ)
    → IsValidEntry e → IsRest n last place (entry_line e ++ s) → CanComeNext place e × IsRest n last (after_entry place e) s
behind_one n last place e s h r = entry_step n last place e s r.es r.more r.runs h r.all r.fit r.stand
    r.images r.digests r.few r.fits

pub behind_image : (n : ℕ) (last : Option (List ℕ)) (place : NextLines) (i : ImageCounts) (s : List ℕ)
    → IsValidImage i → IsRest n last place (image_line i ++ s)
    → (is_greater_than_last last i.digest ≡ true) × IsRest (n + 1) (Some i.digest) after_image_line s
behind_image n last place i s h r = image_step n last i s r.es r.more r.runs h r.all r.images r.digests r.few r.fits

-- ---- behind lines that stand there

pub behind_entries : (es : List Entry) (n : ℕ) (last : Option (List ℕ)) (place : NextLines) (s : List ℕ)
    → AllByRecursion IsValidEntry es → IsRest n last place (flat_map entry_line es ++ s)
    → IsRest n last (after_entries place es) s
behind_entries [] n last place s h r = r
behind_entries (e ∷ es) n last place s h r =
    let step = behind_one n last place e (flat_map entry_line es ++ s) h.0
    (subst (λ (x : List ℕ). IsRest n last place x) (first_entry e es s) r) in
    behind_entries es n last (after_entry place e) s h.1 step.1

pub behind_images : (is : List ImageCounts) (n : ℕ) (last : Option (List ℕ)) (place : NextLines) (s : List ℕ)
    → AllByRecursion IsValidImage is → IsRest n last place (flat_map image_text is ++ s)
    → IsRest (n + length is) (last_digest last is) (after_images place is) s
behind_images [] n last place s h r = let e : n ≡ n + 0 = omega arith in
    subst (λ (m : ℕ). IsRest m last place s) e r
behind_images (i ∷ is) n last place s h r =
    let step = behind_image n last place i (flat_map entry_line (entries_of i) ++ (flat_map image_text is ++ s)) h.0
    (subst (λ (x : List ℕ). IsRest n last place x) (first_image i is s) r) in
    let inside = behind_entries (entries_of i) (n + 1) (Some i.digest) after_image_line (flat_map image_text is ++ s) (entries_fit i h.0) step.1 in
    let others = behind_images is (n + 1) (Some i.digest) (after_entries after_image_line (entries_of i)) s h.1 inside in
    subst (λ (m : ℕ). IsRest m (last_digest (Some i.digest) is) (after_images (after_entries after_image_line (entries_of i)) is) s)
    (sym (one_behind n (length is))) others

-- the whole text of a table, behind its first line
pub rest_of_table : (t : CountTable) → IsValidTable t
    → IsRest 0 None before_first_image (flat_map image_text t.images ++ last_line (length t.images) t.runs)
rest_of_table t h =
    let e : 0 + length t.images ≡ length t.images = omega arith in
    let few = h.few in record {
      es = [];
      more = t.images;
      runs = t.runs;
      all = ap (λ (m : ℕ). flat_map image_text t.images ++ last_line m t.runs) (sym e);
      fit = tt;
      stand = tt;
      images = h.images;
      digests = h.rising;
      few = omega (arith, few);
      fits = h.runs;
    }

-- ---- a line that may not stand there

refused : (n : ℕ) (last : Option (List ℕ)) (place : NextLines) (xs s : List ℕ)
    (es : List Entry) (more : List ImageCounts) (runs : ℕ) → lacks 10 xs ≡ true
    → line xs ++ s ≡ flat_map entry_line es ++ (flat_map image_text more ++ last_line (n + length more) runs)
    → AllByRecursion IsValidEntry es → StandIn place es → AllByRecursion IsValidImage more
    → digests_increase_from last more ≡ true → n + length more < 2 ^ 64 → runs < 2 ^ 64
    → IsNotAnEntry place (line xs) → IsNotAnImage last (line xs)
    → ((r : ℕ) → r < 2 ^ 64 → line xs ≡ last_line n r → ⊥) → ⊥
refused n last place xs s (e ∷ es) more runs plain all fit stand images digests few fits empty_entry no_image no_last =
    let t = flat_map image_text more ++ last_line (n + length more) runs in
    let same = same_line xs (entry_words e) s (flat_map entry_line es ++ t) plain (lacks-entry e fit.0)
    (all ∙ first_entry e es t ∙ ap (λ (x : List ℕ). x ++ (flat_map entry_line es ++ t)) (entry_is_line e)) in
    empty_entry e fit.0 stand.0 (same.0 ∙ sym (entry_is_line e))
refused n last place xs s [] (i ∷ is) runs plain all fit stand images digests few fits empty_entry no_image no_last =
    let end = last_line (n + suc (length is)) runs in
    let t = flat_map entry_line (entries_of i) ++ (flat_map image_text is ++ end) in
    let same = same_line xs (image_words i) s t plain (lacks-image i images.0)
    (all ∙ first_image i is end ∙ ap (λ (x : List ℕ). x ++ t) (image_is_line i)) in
    no_image i images.0 (image_low last i is digests) (same.0 ∙ sym (image_is_line i))
refused n last place xs s [] [] runs plain all fit stand images digests few fits empty_entry no_image no_last =
    let e : n + 0 ≡ n = omega arith in
    let same = same_line xs (last_words (n + 0) runs) s [] plain (lacks-last (n + 0) runs few fits)
    (all ∙ sym (append-nil (last_line (n + 0) runs)) ∙ ap (λ (x : List ℕ). x ++ []) (last_is_line (n + 0) runs)) in
    no_last runs fits (same.0 ∙ sym (last_is_line (n + 0) runs) ∙ ap (λ (m : ℕ). last_line m runs) e)

pub no_rest : (n : ℕ) (last : Option (List ℕ)) (place : NextLines) (xs s : List ℕ) → lacks 10 xs ≡ true
    → IsNotAnEntry place (line xs) → IsNotAnImage last (line xs)
    → ((r : ℕ) → r < 2 ^ 64 → line xs ≡ last_line n r → ⊥) → IsRest n last place (line xs ++ s) → ⊥
no_rest n last place xs s plain empty_entry no_image no_last r =
    refused n last place xs s r.es r.more r.runs plain r.all r.fit r.stand r.images r.digests r.few r.fits
    empty_entry no_image no_last
