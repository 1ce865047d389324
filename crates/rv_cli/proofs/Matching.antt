-- Rows whose values pass the tests of their arguments.
use Rattle.std.proofs.Common.{◌≡◌, ◌∙◌, ◌<◌, ◌≤◌, ◌||◌, Bool, true, false, true≢false, not, refl, sym, ap, subst, cond}
use Rattle.std.proofs.Common.{arith, List, [], ◌∷◌, ◌++◌, Option, Some, None, length, length-append, leb-true, nat_le}
use Rattle.std.specs.Option.{option_map_or}
use Rattle.std.specs.List.{find, fold, list_all, list_any}
use Rattle.std.specs.Str.{bytes_eq}
use Rattle.std.proofs.lemmas.List.Folds.{list_all-append}
use Rattle.std.proofs.lemmas.Slice.Eq.{bytes_eq-Decides}
use Rattle.clap.specs.Facts.{explicit_source, unwrap_or_range}
use Rattle.clap.specs.Simple.{Shape}
use Rattle.clap.specs.Takes.{default_passes, is_given, is_valid, level_passes, set_passes, settle_passes, use_passes}
use Rattle.clap.specs.Takes.{value_passes, values_pass, walk_passes}
use Rattle.clap.specs.Walk.{Held, Row, Rule, Text, action_of, arg_by_id, default_rows, first_of, has_row, is_empty}
use Rattle.clap.specs.Walk.{most_values, nothing_held, one_of, reading_by, rows_after, settled, stronger, used, walk}
use Rattle.clap.specs.Walk.{walk_from, with_default, with_values, without}
use Rattle.clap.specs.declared.builder.action.ArgAction.TheVariants.{Help, Set}
use Rattle.clap.specs.declared.builder.value_parser.Reading.{Reading}
use Rattle.clap.specs.Values.{read_as}
use Rattle.clap.specs.declared.parser.matches.ValueSource.{ValueSource}
use Rattle.clap.specs.declared.parser.matches.ValueSource.TheVariants.{CommandLine, DefaultValue}
use Rattle.clap.proofs.WalkLemmas.{both}
use Rattle.rv_cli.proofs.Walking.{settled_keeps, walk_keeps}

-- ---- lists of rules

-- each of the list has Q
abbrev pub EachOf : {X : Type 0} → (X → Type 0) → List X → Type 0
EachOf Q [] = Unit {0}
EachOf Q (x ∷ xs) = Q x × EachOf Q xs

pub found_of_each : {X : Type 0} (Q : X → Type 0) (p : X → Bool) (xs : List X) (x : X) → EachOf Q xs
    → find p xs ≡ Some x → Q x
found_of_each Q p [] x each found = cc
found_of_each {X} Q p (y ∷ ys) x each found = go (p y) refl (λ later. found_of_each Q p ys x each.1 later)
  where
    go : (b : Bool) → p y ≡ b → (find p ys ≡ Some x → Q x) → Q x
    go true passes rest =
        let same : Some y ≡ Some x = rw passes at found in
        let is : y ≡ x = cc in
        subst Q is each.0
    go false passes rest = rest (rw passes at found)

module _ (c : List Rule) where
  -- the row has values of the argument with its id, all of which pass, and is read as the argument says
  abbrev pub IsGood : Row → Type 0
  IsGood r = (a : Rule) → arg_by_id c r.id ≡ Some a → (0 < length r.values) × (values_pass a r.values ≡ true)
      × (r.reading ≡ reading_by a)

  abbrev pub AreGood : List Row → Type 0
  AreGood = EachOf IsGood

  good_without : (id : Text) (rows : List Row) → AreGood rows → AreGood (without id rows)
  good_without id [] good = tt
  good_without id (r ∷ rs) good = go (bytes_eq r.id id) (good_without id rs good.1)
    where
      go : (b : Bool) → AreGood (without id rs) → AreGood (cond b rs (r ∷ without id rs))
      go true rest = good.1
      go false rest = (good.0, rest)

  good_with : (id : Text) (how : Reading) (from : ValueSource) (values : List Text) (rows : List Row)
      → IsGood (record { id = id; values = values; count = None; source = Some from; reading = how }) → AreGood rows
      → AreGood (with_values id how from values rows)
  good_with id how from values [] fresh good = (fresh, tt)
  good_with id how from values (r ∷ rs) fresh good =
      go (bytes_eq r.id id) refl (good_with id how from values rs fresh good.1)
    where
      more : Row
      more = record r { values = r.values ++ values; source = Some (stronger r.source from) }

      merged : bytes_eq r.id id ≡ true → IsGood more
      merged same = λ a found.
          let old = good.0 a found in
          let is : r.id ≡ id = (bytes_eq-Decides r.id id).0 same in
          let new = fresh a (ap (arg_by_id c) (sym is) ∙ found) in (
            omega (arith, length-append r.values values, old.0),
            list_all-append _ r.values values ∙ rw (old.1, new.1) refl,
            old.2,
          )

      go : (b : Bool) → bytes_eq r.id id ≡ b → AreGood (with_values id how from values rs)
          → AreGood (cond (bytes_eq r.id id) (more ∷ rs) (r ∷ with_values id how from values rs))
      go true same rest = rw same (merged same, good.1)
      go false other rest = rw other (good.0, rest)

  fresh_row : (b : Rule) (from : ValueSource) (v : Text) (vs : List Text) → arg_by_id c b.id ≡ Some b
      → values_pass b (v ∷ vs) ≡ true
      → IsGood (record { id = b.id; values = v ∷ vs; count = None; source = Some from; reading = reading_by b })
  fresh_row b from v vs own passes = λ a found.
      let same : Some b ≡ Some a = sym own ∙ found in
      let is : b ≡ a = cc in
      (omega arith, subst (λ (x : Rule). values_pass x (v ∷ vs) ≡ true) is passes, ap reading_by is)

  -- a use of the rule that passes keeps rows good, and so does its default
  abbrev pub KeepsGood : Bool → Rule → Type 0
  KeepsGood again b = ((values : List Text) (rows : List Row) → use_passes again b values rows ≡ true → AreGood rows
      → AreGood (used b values rows))
      × ((rows : List Row) → AreGood rows → AreGood (with_default rows b))

  default_good : (b : Rule) → arg_by_id c b.id ≡ Some b → values_pass b b.defaults ≡ true → (rows : List Row)
      → AreGood rows → AreGood (with_default rows b)
  default_good b own passes rows good = go (has_row b.id rows)
    where
      fill : (ds : List Text) → values_pass b ds ≡ true → AreGood (default_rows b.id (reading_by b) ds rows)
      fill [] passed = good
      fill (v ∷ vs) passed = good_with b.id (reading_by b) DefaultValue (v ∷ vs) rows
          (fresh_row b DefaultValue v vs own passed) good

      go : (h : Bool) → AreGood (cond h rows (default_rows b.id (reading_by b) b.defaults rows))
      go true = good
      go false = fill b.defaults passes

  use_good : (again : Bool) (b : Rule) → arg_by_id c b.id ≡ Some b → action_of b ≡ Set
      → (unwrap_or_range b.range).start_inclusive ≡ 1
      → (values : List Text) (rows : List Row) → use_passes again b values rows ≡ true → AreGood rows
      → AreGood (used b values rows)
  use_good again b own set one [] rows e good =
      let few = both (nat_le (unwrap_or_range b.range).start_inclusive 0) _ e in
      let least : (unwrap_or_range b.range).start_inclusive ≤ 0 = leb-true _ _ few.0 in
      absurd (omega arith)
  use_good again b own set one (v ∷ vs) rows e good =
      let parts = both (nat_le (unwrap_or_range b.range).start_inclusive (length (v ∷ vs))) _ e in
      let acts = both (nat_le (length (v ∷ vs)) (most_values b)) _ parts.1 in
      let sets : set_passes again b (v ∷ vs) rows ≡ true = rw set at acts.1 in
      let passes = (both (not (has_row b.id rows) || again) _ sets).1 in
      rw set (good_with b.id (reading_by b) CommandLine (v ∷ vs) (without b.id rows)
      (fresh_row b CommandLine v vs own passes) (good_without b.id rows good))

  -- of an argument that takes a value
  pub value_good : (again : Bool) (b : Rule) → arg_by_id c b.id ≡ Some b → action_of b ≡ Set
      → (unwrap_or_range b.range).start_inclusive ≡ 1
      → values_pass b b.defaults ≡ true → KeepsGood again b
  value_good again b own set one passes = (use_good again b own set one, default_good b own passes)

  -- of the help flag
  pub help_good : (again : Bool) (b : Rule) → arg_by_id c b.id ≡ Some b → action_of b ≡ Help
      → values_pass b b.defaults ≡ true → KeepsGood again b
  help_good again b own help passes = ((λ values rows e good. rw help good), default_good b own passes)

  defaults_good : (again : Bool) (xs : List Rule) (rows : List Row) → EachOf (KeepsGood again) xs → AreGood rows
      → AreGood (fold with_default rows xs)
  defaults_good again [] rows each good = good
  defaults_good again (b ∷ bs) rows each good = defaults_good again bs (with_default rows b) each.1 (each.0.1 rows good)

-- ---- rows that are there

has_with : (id : Text) (how : Reading) (from : ValueSource) (values : List Text) (rows : List Row)
    → has_row id (with_values id how from values rows) ≡ true
has_with id how from values [] = rw ((bytes_eq-Decides id id).1 refl) refl
has_with id how from values (r ∷ rs) = go (bytes_eq r.id id) refl (has_with id how from values rs)
  where
    go : (b : Bool) → bytes_eq r.id id ≡ b → has_row id (with_values id how from values rs) ≡ true
        → has_row id (with_values id how from values (r ∷ rs)) ≡ true
    go true same rest = rw same (rw same refl)
    go false other rest = rw other (rw other rest)

still_with : (here id : Text) (how : Reading) (from : ValueSource) (values : List Text) (rows : List Row)
    → has_row here rows ≡ true
    → has_row here (with_values id how from values rows) ≡ true
still_with here id how from values [] has = absurd (true≢false (sym has))
still_with here id how from values (r ∷ rs) has =
    go (bytes_eq r.id id) (bytes_eq r.id here) refl refl (λ later. still_with here id how from values rs later)
  where
    go : (b d : Bool) → bytes_eq r.id id ≡ b → bytes_eq r.id here ≡ d
        → (has_row here rs ≡ true → has_row here (with_values id how from values rs) ≡ true)
        → has_row here (with_values id how from values (r ∷ rs)) ≡ true
    go true d same is rest = rw same has
    go false true other is rest = rw other (rw is refl)
    go false false other is rest = rw other (rw is (rest (rw is at has)))

default_has : (b : Rule) (rows : List Row) → is_empty b.defaults ≡ false → has_row b.id (with_default rows b) ≡ true
default_has b rows some = go (has_row b.id rows) refl
  where
    fill : (ds : List Text) → is_empty ds ≡ false → has_row b.id (default_rows b.id (reading_by b) ds rows) ≡ true
    fill [] none = absurd (true≢false none)
    fill (v ∷ vs) more = has_with b.id (reading_by b) DefaultValue (v ∷ vs) rows

    go : (h : Bool) → has_row b.id rows ≡ h
        → has_row b.id (cond (has_row b.id rows) rows (default_rows b.id (reading_by b) b.defaults rows)) ≡ true
    go true has = rw has has
    go false lacks = rw lacks (fill b.defaults some)

default_still : (here : Text) (b : Rule) (rows : List Row) → has_row here rows ≡ true
    → has_row here (with_default rows b) ≡ true
default_still here b rows has = go (has_row b.id rows)
  where
    fill : (ds : List Text) → has_row here (default_rows b.id (reading_by b) ds rows) ≡ true
    fill [] = has
    fill (v ∷ vs) = still_with here b.id (reading_by b) DefaultValue (v ∷ vs) rows has

    go : (h : Bool) → has_row here (cond h rows (default_rows b.id (reading_by b) b.defaults rows)) ≡ true
    go true = has
    go false = fill b.defaults

defaults_still : (here : Text) (bs : List Rule) (rows : List Row) → has_row here rows ≡ true
    → has_row here (fold with_default rows bs) ≡ true
defaults_still here [] rows has = has
defaults_still here (b ∷ bs) rows has = defaults_still here bs (with_default rows b) (default_still here b rows has)

-- a rule with a default has a row
abbrev pub HasDefault : List Row → Rule → Type 0
HasDefault rows b = is_empty b.defaults ≡ false → has_row b.id rows ≡ true

defaults_have : (bs : List Rule) (rows : List Row) → EachOf (HasDefault (fold with_default rows bs)) bs
defaults_have [] rows = tt
defaults_have (b ∷ bs) rows = (
  (λ some. defaults_still b.id bs (with_default rows b) (default_has b rows some)),
  defaults_have bs
      (with_default rows b),
)

-- ---- a level

-- each required rule was given
abbrev pub has_required : List Rule → List Row → Bool
has_required rules rows = list_all (λ a. not a.required || is_given a.id rows) rules

required_given : (s : Shape) (rows : List Row) → s.subcommand_negates_reqs ≡ false → is_valid s rows false ≡ true
    → has_required s.rules rows ≡ true
required_given s rows negates e =
    let helped = both (not s.arg_required_else_help || (false || list_any (λ r. explicit_source r.source) rows)) _ e in
    let met = both (not s.subcommand_required || false) _ helped.1 in
    let free = both (list_all (λ a. a.is_free) s.rules) _ met.1 in
    rw negates at free.1

-- what a subcommand makes of words that it takes
pub record IsRead (rules : List Rule) (rows : List Row) : Type 0 where
  pub good : AreGood rules rows
  pub given : has_required rules rows ≡ true
  pub filled : EachOf (HasDefault rows) rules

pub level_read : (s : Shape) (args : List Text) → EachOf (KeepsGood s.rules s.args_override_self) s.rules
    → s.subcommand_negates_reqs ≡ false
    → level_passes s [] nothing_held args false ≡ true → IsRead s.rules (rows_after s.rules [] args)
level_read s args each negates e =
    let end : Held = (walk s.rules [] nothing_held args).held in
    let walks = both (walk_passes s [] (walk_from nothing_held) args) _ e in
    let settles = both (settle_passes s.rules s.args_override_self end) _ walks.1 in
    let defaults = both (list_all default_passes s.rules) _ settles.1 in
    let keeps : (p : Rule → Bool) (b : Rule) (values : List Text) (rows : List Row) → find p s.rules ≡ Some b
    → use_passes s.args_override_self b values rows ≡ true → AreGood s.rules rows
    → AreGood s.rules (used b values rows) =
    λ p b values rows found. (found_of_each (KeepsGood s.rules s.args_override_self) p s.rules b each found).0 values
    rows in
    let walked_good = walk_keeps s (AreGood s.rules) keeps [] (walk_from nothing_held) args walks.0 tt in
    let settled_good = settled_keeps s (AreGood s.rules) keeps end settles.0 walked_good in
    record {
      good = defaults_good s.rules s.args_override_self s.rules (settled s.rules end).rows each settled_good;
      given = required_given s _ negates defaults.1;
      filled = defaults_have s.rules (settled s.rules end).rows;
    }

-- ---- what is read of a row

find_passes : {X : Type 0} (p : X → Bool) (xs : List X) (x : X) → find p xs ≡ Some x → p x ≡ true
find_passes p [] x found = cc
find_passes {X} p (y ∷ ys) x found = go (p y) refl (λ later. find_passes p ys x later)
  where
    go : (b : Bool) → p y ≡ b → (find p ys ≡ Some x → p x ≡ true) → p x ≡ true
    go true passes rest =
        let same : Some y ≡ Some x = rw passes at found in
        let is : y ≡ x = cc in
        rw (← is) passes
    go false passes rest = rest (rw passes at found)

-- a row has this id
abbrev pub IsThere : Text → List Row → Type 0
IsThere id rows = (r : Row) × (find (λ r. bytes_eq r.id id) rows ≡ Some r)

pub there_if_given : (id : Text) (rows : List Row) → is_given id rows ≡ true → IsThere id rows
there_if_given id rows e = go (find (λ r. bytes_eq r.id id) rows) refl e
  where
    go : (o : Option Row) → find (λ r. bytes_eq r.id id) rows ≡ o
        → option_map_or (λ r. explicit_source r.source) o false ≡ true → IsThere id rows
    go None is given = absurd (true≢false (sym given))
    go (Some r) is given = (r, is)

pub there_if_had : (id : Text) (rows : List Row) → has_row id rows ≡ true → IsThere id rows
there_if_had id [] e = absurd (true≢false (sym e))
there_if_had id (r ∷ rs) e = go (bytes_eq r.id id) refl (λ later. there_if_had id rs later)
  where
    go : (b : Bool) → bytes_eq r.id id ≡ b → (has_row id rs ≡ true → IsThere id rs) → IsThere id (r ∷ rs)
    go true same rest = (r, rw same refl)
    go false other rest =
        let there = rest (rw other at e) in
        (there.0, rw other there.1)

-- the first value of a row that is there passes, and is read as its rule says
pub value_there : (c : List Rule) (id : Text) (rows : List Row) (a : Rule) → arg_by_id c id ≡ Some a → AreGood c rows
    → IsThere id rows
    → (v : Text) × (first_of id rows ≡ Some v) × (one_of id rows ≡ Some (read_as (reading_by a) v))
    × (value_passes a v ≡ true)
value_there c id rows a own good there =
    let r : Row = there.0 in
    let is : r.id ≡ id = (bytes_eq-Decides r.id id).0 (find_passes (λ r. bytes_eq r.id id) rows r there.1) in
    let facts = found_of_each (IsGood c) (λ r. bytes_eq r.id id) rows r good there.1 a (ap (arg_by_id c) is ∙ own) in
    go there.0 there.1 facts there.0.values refl
  where
    go : (r : Row) → find (λ r. bytes_eq r.id id) rows ≡ Some r → (0 < length r.values)
        × (values_pass a r.values ≡ true) × (r.reading ≡ reading_by a)
        → (vs : List Text) → r.values ≡ vs
        → (v : Text) × (first_of id rows ≡ Some v) × (one_of id rows ≡ Some (read_as (reading_by a) v))
        × (value_passes a v ≡ true)
    go r found facts [] none =
        let some : 0 < 0 = rw none at facts.0 in
        absurd (omega arith)
    go r found facts (v ∷ vs) same = (
      v,
      rw (found, same) refl,
      rw (found, same, facts.2) refl,
      (both (value_passes a v) _ (rw same at facts.1)).0,
    )
