-- What holds of the rows of a walk over words that pass, where each use of an argument that passes keeps it.
use Rattle.std.proofs.Common.{◌≡◌, ◌&&◌, ◌||◌, ℕ, Bool, true, false, zero, suc, refl, cond, List, [], ◌∷◌, Option, Some}
use Rattle.std.proofs.Common.{None, length, drop}
use Rattle.std.specs.Option.{is_some, option_map_or}
use Rattle.std.specs.List.{find, fold}
use Rattle.std.specs.Str.{bytes_eq, chars}
use Rattle.std.specs.Prelude.{encode_utf8, slice_get}
use Rattle.clap.specs.Lexer.{long_of, short_of}
use Rattle.clap.specs.Simple.{Shape}
use Rattle.clap.specs.Takes.{bundle_step_passes, flag_word_passes, flags_pass, long_passes, option_passes, other_passes}
use Rattle.clap.specs.Takes.{positional_passes, react_passes, settle_passes, short_passes, step_passes, turn_passes}
use Rattle.clap.specs.Takes.{use_passes, walk_passes, word_passes}
use Rattle.clap.specs.Walk.{Held, Names, Outcome, Row, Rule, Step, Text, Waiting, Walk, after_flag, after_step}
use Rattle.clap.specs.Walk.{arg_by_id, arg_by_index, arg_by_long, arg_by_short, attached_value, bundle_met, bundle_step}
use Rattle.clap.specs.Walk.{done, waits, plain, refused, idle, option, positional, next, option_word, trailing}
use Rattle.clap.specs.Walk.{subcommand, value, is_pending, long_met, long_or_other, option_met, flag_met, plain_word}
use Rattle.clap.specs.Walk.{reacted, settled, settled_rows, short_met, short_or_plain, subcommand_met}
use Rattle.clap.specs.Walk.{subcommand_or_other, takes_several, takes_values, to_positional, used, used_by_id, walked}
use Rattle.clap.specs.Walk.{walked_from, word_met}
use Rattle.clap.proofs.WalkLemmas.{both}

module _ (s : Shape) (Inv : List Row → Type 0)
    (keeps : (p : Rule → Bool) (b : Rule) (values : List Text) (rows : List Row) → find p s.rules ≡ Some b
    → use_passes s.args_override_self b values rows ≡ true → Inv rows → Inv (used b values rows)) where
  -- ---- uses

  settle : (pending : Option (Text × List Text)) (rows : List Row)
      → option_map_or (λ p. option_map_or (λ a. use_passes s.args_override_self a p.1 rows) (arg_by_id s.rules p.0)
      true) pending true ≡ true
      → Inv rows → Inv (settled_rows s.rules pending rows)
  settle None rows e inv = inv
  settle (Some p) rows e inv = go (arg_by_id s.rules p.0) refl e
    where
      go : (o : Option Rule) → arg_by_id s.rules p.0 ≡ o
          → option_map_or (λ a. use_passes s.args_override_self a p.1 rows) o true ≡ true
          → Inv (used_by_id o p.1 rows)
      go None same passes = inv
      go (Some a) same passes = keeps (λ b. bytes_eq b.id p.0) a p.1 rows same passes inv

  pub settled_keeps : (h : Held) → settle_passes s.rules s.args_override_self h ≡ true → Inv h.rows
      → Inv (settled s.rules h).rows
  settled_keeps h e inv = settle h.pending h.rows e inv

  reacted_keeps : (p : Rule → Bool) (a : Rule) (values : List Text) (h : Held) → find p s.rules ≡ Some a
      → react_passes s.rules s.args_override_self a values h ≡ true → Inv h.rows → Inv (reacted s.rules a values h).rows
  reacted_keeps p a values h found e inv =
      let parts = both (settle_passes s.rules s.args_override_self h) _ e in
      keeps p a values (settled s.rules h).rows found parts.1 (settled_keeps h parts.0 inv)

  option_keeps : (p : Rule → Bool) (a : Rule) (v : Option Text) (h : Held) → find p s.rules ≡ Some a
      → option_passes s.rules s.args_override_self a v h ≡ true → Inv h.rows → Inv (option_met s.rules a v h).0.rows
  option_keeps p a (Some v) h found e inv = reacted_keeps p a (v ∷ []) h found e inv
  option_keeps p a None h found e inv = settled_keeps h e inv

  -- ---- flag words

  long_keeps : (p : Rule → Bool) (o : Option Rule) (v : Option Text) (h : Held) → find p s.rules ≡ o
      → long_passes s.rules s.args_override_self o v h ≡ true → Inv h.rows → Inv (long_met s.rules o v h).0.rows
  long_keeps p None v h found e inv = inv
  long_keeps p (Some a) v h found e inv = go (takes_values a) refl
    where
      flag : (v : Option Text) → long_passes s.rules s.args_override_self (Some a) v h ≡ true → takes_values a ≡ false
          → Inv (flag_met s.rules a v h).0.rows
      flag (Some v) passes bare = inv
      flag None passes bare = reacted_keeps p a [] h found (rw bare at passes) inv

      go : (b : Bool) → takes_values a ≡ b
          → Inv (cond (takes_values a) (option_met s.rules a v h) (flag_met s.rules a v h)).0.rows
      go true valued = rw valued (option_keeps p a v h found (rw valued at e) inv)
      go false bare = rw bare (flag v e bare)

  short_keeps : (p : Rule → Bool) (o : Option Rule) (rest : Text) (h : Held) (after : Held → Bool)
      (met : Held → Held × Outcome) → find p s.rules ≡ o
      → ((g : Held) → after g ≡ true → Inv g.rows → Inv (met g).0.rows)
      → short_passes s.rules s.args_override_self o rest h after ≡ true → Inv h.rows
      → Inv (short_met s.rules o rest h met).0.rows
  short_keeps p None rest h after met found more e inv = inv
  short_keeps p (Some a) rest h after met found more e inv = go (takes_values a) refl
    where
      go : (b : Bool) → takes_values a ≡ b
          → Inv (cond (takes_values a) (option_met s.rules a (attached_value rest) h)
          (met (reacted s.rules a [] h))).0.rows
      go true valued = rw valued (option_keeps p a (attached_value rest) h found (rw valued at e) inv)
      go false bare =
          let parts = both (react_passes s.rules s.args_override_self a [] h) _ (rw bare at e) in
          rw bare (more (reacted s.rules a [] h) parts.1 (reacted_keeps p a [] h found parts.0 inv))

  bundle_step_keeps : (x : Option ℕ) (flags : Text) (skip : ℕ) (so_far : Outcome) (h : Held)
      (after : Text → ℕ → Held → Bool)
      (met : Text → ℕ → Outcome → Held → Held × Outcome)
      → ((rest : Text) (less : ℕ) (so : Outcome) (g : Held) → after rest less g ≡ true → Inv g.rows
      → Inv (met rest less so g).0.rows)
      → bundle_step_passes s.rules s.args_override_self x flags skip h after ≡ true → Inv h.rows
      → Inv (bundle_step s.rules x flags skip so_far h met).0.rows
  bundle_step_keeps None flags skip so_far h after met more e inv = inv
  bundle_step_keeps (Some x) flags zero so_far h after met more e inv =
      let rest : Text = drop (length (encode_utf8 x)) flags in
      short_keeps _ (arg_by_short s.rules x) rest h (after rest 0) (met rest 0 done) refl (more rest 0 done) e inv
  bundle_step_keeps (Some x) flags (suc skip) so_far h after met more e inv =
      more (drop (length (encode_utf8 x)) flags) skip so_far h e inv

  bundle_keeps : (k : ℕ) (flags : Text) (skip : ℕ) (so_far : Outcome) (h : Held)
      → flags_pass s.rules s.args_override_self k flags skip h ≡ true
      → Inv h.rows → Inv (bundle_met s.rules k flags skip so_far h).0.rows
  unfolding bundle_met flags_pass
  bundle_keeps zero flags skip so_far h e inv = inv
  bundle_keeps (suc k) flags skip so_far h e inv =
      bundle_step_keeps (slice_get (chars flags) 0) flags skip so_far h (flags_pass s.rules s.args_override_self k)
      (bundle_met s.rules k)
      (λ rest less so g passes kept. bundle_keeps k rest less so g passes kept) e inv

  -- ---- words

  plain_keeps : (waiting : Waiting) (word : Text) (h : Held) → Inv h.rows
      → Inv (plain_word s.rules waiting word h).0.rows
  plain_keeps idle word h inv = inv
  plain_keeps positional word h inv = inv
  plain_keeps (option id) word h inv = go (arg_by_id s.rules id)
    where
      go : (o : Option Rule) → Inv (option_word o id word h).0.rows
      go None = inv
      go (Some a) = inv

  flagged_keeps : (waiting : Waiting) (word : Text) (h : Held) (outcome : Outcome) → Inv h.rows
      → Inv (after_flag s.rules waiting word h outcome).0.rows
  flagged_keeps waiting word h done inv = inv
  flagged_keeps waiting word h (waits id) inv = inv
  flagged_keeps waiting word h plain inv = plain_keeps waiting word h inv
  flagged_keeps waiting word h refused inv = plain_keeps waiting word h inv

  short_word_keeps : (waiting : Waiting) (word : Text) (o : Option Text) (h : Held)
      → option_map_or (λ flags. flags_pass s.rules s.args_override_self (length flags) flags h.skip
      (record h { skip = 0 })) o true ≡ true → Inv h.rows
      → Inv (short_or_plain s.rules waiting word o h).0.rows
  short_word_keeps waiting word None h e inv = plain_keeps waiting word h inv
  short_word_keeps waiting word (Some flags) h e inv =
      flagged_keeps waiting word _ _ (bundle_keeps (length flags) flags h.skip plain (record h { skip = 0 }) e inv)

  flag_word_keeps : (waiting : Waiting) (word : Text) (o : Option (Text × Option Text)) (h : Held)
      → flag_word_passes s.rules s.args_override_self o word h ≡ true → Inv h.rows
      → Inv (long_or_other s.rules waiting word o h).0.rows
  flag_word_keeps waiting word (Some p) h e inv =
      flagged_keeps waiting word _ _ (long_keeps _ (arg_by_long s.rules p.0) p.1 h refl e inv)
  flag_word_keeps waiting word None h e inv = short_word_keeps waiting word (short_of word) h e inv

  other_keeps : (name : Option Text) (waiting : Waiting) (position : ℕ) (word : Text) (h : Held)
      → other_passes s name word h ≡ true → Inv h.rows
      → Inv (subcommand_or_other s.rules name waiting position word h).0.rows
  other_keeps (Some name) waiting position word h e inv = inv
  other_keeps None waiting position word h e inv = go (bytes_eq word (45 ∷ 45 ∷ [])) e
    where
      go : (b : Bool) → (b || flag_word_passes s.rules s.args_override_self (long_of word) word h) ≡ true
          → Inv (cond b (h, trailing position) (long_or_other s.rules waiting word (long_of word) h)).0.rows
      go true passes = inv
      go false passes = flag_word_keeps waiting word (long_of word) h passes inv

  word_keeps : (names : Names) (is_trailing : Bool) (waiting : Waiting) (position : ℕ) (word : Text) (h : Held)
      → word_passes s names is_trailing waiting word h ≡ true → Inv h.rows
      → Inv (word_met s.rules names is_trailing waiting position word h).0.rows
  word_keeps names true waiting position word h e inv = inv
  word_keeps names false waiting position word h e inv =
      other_keeps (subcommand_met names waiting word) waiting position word h e inv

  positional_keeps : (o : Option Rule) (word : Text) (w : Walk) (h : Held)
      → option_map_or (λ a. positional_passes s.rules s.args_override_self a h) o false ≡ true → Inv h.rows
      → Inv (to_positional s.rules o word w h).held.rows
  positional_keeps None word w h e inv = inv
  positional_keeps (Some a) word w h e inv = go (is_pending a h.pending && takes_several a) e
    where
      go : (b : Bool) → (b || settle_passes s.rules s.args_override_self h) ≡ true
          → Inv (cond b h (settled s.rules h)).rows
      go true passes = inv
      go false passes = settled_keeps h passes inv

  step_keeps : (word : Text) (w : Walk) (h : Held) (step : Step) → step_passes s w.position h step ≡ true → Inv h.rows
      → Inv (after_step s.rules word w h step).held.rows
  step_keeps word w h (next waiting) e inv = inv
  step_keeps word w h (trailing position) e inv = inv
  step_keeps word w h (subcommand name) e inv = inv
  step_keeps word w h value e inv = positional_keeps (arg_by_index s.rules w.position) word w h e inv

  turn_keeps : (names : Names) (w : Walk) (word : Text) → turn_passes s names w word ≡ true → Inv w.held.rows
      → Inv (walked s.rules names w word).held.rows
  unfolding walked
  turn_keeps names w word e inv = go w.stopped e
    where
      met : Held × Step
      met = word_met s.rules names w.is_trailing w.waiting w.position word w.held

      go : (stop : Option (Text × List Text))
          → (is_some stop || (word_passes s names w.is_trailing w.waiting word w.held
          && step_passes s w.position met.0 met.1)) ≡ true
          → Inv (walked_from s.rules names stop w word).held.rows
      go (Some p) passes = inv
      go None passes =
          let parts = both (word_passes s names w.is_trailing w.waiting word w.held) _ passes in
          step_keeps word w met.0 met.1 parts.1
          (word_keeps names w.is_trailing w.waiting w.position word w.held parts.0 inv)

  pub walk_keeps : (names : Names) (w : Walk) (args : List Text) → walk_passes s names w args ≡ true → Inv w.held.rows
      → Inv (fold (walked s.rules names) w args).held.rows
  unfolding walk_passes
  walk_keeps names w [] e inv = inv
  walk_keeps names w (word ∷ rest) e inv =
      let parts = both (turn_passes s names w word) _ e in
      walk_keeps names (walked s.rules names w word) rest parts.1 (turn_keeps names w word parts.0 inv)
