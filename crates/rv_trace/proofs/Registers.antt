-- The lines of registers, one after the other.
use Rattle.std.proofs.Common.{◌≡◌, ◌∙◌, ◌<◌, ◌≤◌, ◌+◌, ◌++◌, [], ℕ, List, sym, ap, add-one, append_assoc, get_or}
use Rattle.std.proofs.Common.{length, drop, drop-cons}
use Rattle.std.proofs.lemmas.List.{append-nil, drop_all}
use Rattle.rv_rows.specs.declared_image.Image.{Image}
use Rattle.rv_trace.specs.Text.{register_line, register_lines}

module _ (image : Image) (file : List ℕ) where
  -- the first of them, and the others
  first_line : (n : ℕ) (values : List ℕ) → n < length values → register_lines image file n (drop n values)
      ≡ register_line image file n (get_or values n 0) ++ register_lines image file (n + 1) (drop (n + 1) values)
  unfolding register_lines
  first_line n values h = ap (register_lines image file n) (drop-cons values n 0 h)
      ∙ ap (λ k. register_line image file n (get_or values n 0) ++ register_lines image file (n + 1) (drop k values))
      (sym (add-one n))

  no_line : (n : ℕ) (values : List ℕ) → length values ≤ n → register_lines image file n (drop n values) ≡ []
  unfolding register_lines
  no_line n values h = ap (register_lines image file n) (drop_all n values h)

  -- one line more
  pub more_lines : (n : ℕ) (values bytes next whole : List ℕ) → n < length values
      → next ≡ bytes ++ register_line image file n (get_or values n 0)
      → bytes ++ register_lines image file n (drop n values) ≡ whole
      → next ++ register_lines image file (n + 1) (drop (n + 1) values) ≡ whole
  more_lines n values bytes next whole h pushed so_far =
      ap (λ bs. bs ++ register_lines image file (n + 1) (drop (n + 1) values)) pushed
      ∙ append_assoc bytes (register_line image file n (get_or values n 0))
      (register_lines image file (n + 1) (drop (n + 1) values))
      ∙ ap (λ ls. bytes ++ ls) (sym (first_line n values h)) ∙ so_far

  -- all of them
  pub all_lines : (n : ℕ) (values bytes whole : List ℕ) → length values ≤ n
      → bytes ++ register_lines image file n (drop n values) ≡ whole → bytes ≡ whole
  all_lines n values bytes whole h so_far =
      sym (append-nil bytes) ∙ ap (λ ls. bytes ++ ls) (sym (no_line n values h)) ∙ so_far
