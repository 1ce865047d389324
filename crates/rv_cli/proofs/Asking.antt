-- Words that the command takes ask for something.
use Rattle.std.proofs.Common.{◌≡◌, ◌∙◌, ◌<◌, ◌^◌, ◌&&◌, ◌||◌, ℕ, Bool, not, true, false, true≢false, refl, sym, ap}
use Rattle.std.proofs.Common.{cond, arith, List, [], Option, Some, None, codes, nat_lt}
use Rattle.std.specs.Option.{is_some, option_and_then, option_map, option_map_or, unwrap_or}
use Rattle.std.specs.List.{find, list_all, list_any}
use Rattle.std.specs.Prelude.{pos, slice_get}
use Rattle.std.specs.Str.Parse.{ParsesUnsigned, digits_value, without_leading_plus}
use Rattle.std.proofs.lemmas.Bool.{le-leb}
use Rattle.clap.specs.Lexer.{without_minus}
use Rattle.clap.specs.Matches.{ReadsOne}
use Rattle.clap.specs.Facts.{explicit_source, parser_of_value}
use Rattle.clap.specs.ValueTests.{accepts, is_numeral}
use Rattle.clap.specs.Values.{read_as, reading_of}
use Rattle.clap.specs.Simple.{App, Shape, argument_words, built, entered, is_simple, label_of, names_of, rows_at}
use Rattle.clap.specs.Takes.{built_takes, default_passes, entered_passes, is_given, level_passes, settle_passes}
use Rattle.clap.specs.Takes.{walk_passes}
use Rattle.clap.specs.Walk.{Held, Names, Row, Rule, Text, answers_to, arg_by_id, finished, nothing_held, one_of}
use Rattle.clap.specs.Walk.{rows_after, walk, walk_from}
use Rattle.clap.specs.declared.builder.value_parser.ValueParser.TheVariants as value_parser
use Rattle.clap.proofs.CallerReads.{signed_reads}
use Rattle.clap.proofs.ValueTestLemmas.{accepts-Accepts}
use Rattle.clap.proofs.WalkLemmas.{both}
use Rattle.rv_cli.proofs.Matching.{AreGood, EachOf, IsRead, IsThere, found_of_each, help_good, level_read}
use Rattle.rv_cli.proofs.Matching.{there_if_given, there_if_had, value_good, value_there}
use Rattle.rv_cli.proofs.Numerals.{test_gives, test_holds}
use Rattle.rv_cli.specs.declared.rvfleet.Request.{Request as Value}
use Rattle.rv_cli.specs.RvfleetRequests.{request}
use Rattle.rv_cli.specs.RvfleetCommand.{budget_rule, fleet_app, are_arguments_accepted, one_request}
use Rattle.rv_cli.specs.Values.{number_value, parsed_decimal, number_in_range}
use Rattle.rv_cli.specs.RvfleetCommand.{raw_request, subcommand_request, request_of, run_request}

-- ---- numbers

number_read : (text : Text) → ReadsOne (ParsesUnsigned {E = Unit {0}} 32 10) text (parsed_decimal text)
number_read text = go
    (is_numeral (without_leading_plus text) && nat_lt (digits_value 10 (without_leading_plus text)) (2 ^ 32)) refl
  where
    go : (b : Bool) → (is_numeral (without_leading_plus text)
        && nat_lt (digits_value 10 (without_leading_plus text)) (2 ^ 32)) ≡ b
        → ReadsOne (ParsesUnsigned {E = Unit {0}} 32 10) text
        (cond b (Some (digits_value 10 (without_leading_plus text))) None)
    go true e = (test_gives (without_leading_plus text) e, refl)
    go false e = (tt, (λ h. absurd (true≢false (sym (test_holds (without_leading_plus text) h.0 h.1) ∙ e))))

-- a value that passes its range is a number in it
number_there : (c : List Rule) (id : Text) (rows : List Row) (a : Rule) (low high : ℕ) → arg_by_id c id ≡ Some a
    → parser_of_value a.parser ≡ value_parser.Signed (pos low) (pos high) → high < 2 ^ 32 → AreGood c rows
    → IsThere id rows
    → (n : ℕ) × (number_value id low high rows ≡ Some n)
number_there c id rows a low high own parser fits good there =
    let value = value_there c id rows a own good there in
    let reads : one_of id rows ≡ Some (without_minus value.0) = value.2
    ∙ ap (λ p. Some (read_as (reading_of p) value.0)) parser in
    let passes : accepts a.ignore_case (value_parser.Signed (pos low) (pos high)) value.0 ≡ true =
    rw parser at value.3 in
    let number = signed_reads (Unit {0}) (λ text read. ParsesUnsigned 32 10 text read) 32 low high value.0
    (parsed_decimal (without_minus value.0))
    (number_read (without_minus value.0)) (λ _ _ read. read) fits
    (accepts-Accepts a.ignore_case (value_parser.Signed (pos low) (pos high)) value.0 passes) in (
      number.0,
      ap (λ text. option_and_then (number_in_range low high) (option_and_then parsed_decimal text)) reads
          ∙ ap (λ read. option_and_then (number_in_range low high) read) number.1
          ∙ rw (le-leb low number.0 number.2, le-leb number.0 high number.3) refl,
    )

-- ---- the subcommands

abbrev leaf : ℕ → Shape
leaf place = unwrap_or (slice_get (built fleet_app).subs place) fleet_app.top

abbrev rule_at : List Rule → ℕ → Rule
rule_at rules place = unwrap_or (slice_get rules place) budget_rule

-- what the subcommand takes asks for something
Asks : Shape → Type 0
Asks s = (args : List Text) → level_passes s [] nothing_held args false ≡ true
    → is_some (subcommand_request s.name (rows_after s.rules [] args)) ≡ true

raw_reads : (rows : List Row) → IsRead (leaf 0).rules rows → is_some (raw_request rows) ≡ true
raw_reads rows read =
    let given = both (is_given (codes "budget") rows) _ read.given in
    let budget = number_there (leaf 0).rules (codes "budget") rows _ 1 1000000000 refl refl (omega arith) read.good
    (there_if_given _ rows given.0) in
    rw budget.1 refl

raw_asks : Asks (leaf 0)
unfolding Asks
raw_asks args e = raw_reads (rows_after (leaf 0).rules [] args) (level_read (leaf 0) args (
  value_good (leaf 0).rules false (rule_at (leaf 0).rules 0) refl refl refl refl,
  (help_good (leaf 0).rules false (rule_at (leaf 0).rules 1) refl refl refl, tt),
)
    refl e)

one_reads : (rows : List Row) → IsRead (leaf 1).rules rows → is_some (one_request rows) ≡ true
one_reads rows read =
    let image_given = both (is_given (codes "image") rows) _ read.given in
    let budget_given = both (is_given (codes "budget") rows) _ image_given.1 in
    let image = value_there (leaf 1).rules (codes "image") rows _ refl read.good (there_if_given _ rows image_given.0)
    in
    let budget = number_there (leaf 1).rules (codes "budget") rows _ 1 1000000000 refl refl (omega arith) read.good
    (there_if_given _ rows budget_given.0) in
    rw (image.1, budget.1) refl

one_asks : Asks (leaf 1)
unfolding Asks
one_asks args e = one_reads (rows_after (leaf 1).rules [] args) (level_read (leaf 1) args (
  value_good (leaf 1).rules false (rule_at (leaf 1).rules 0) refl refl refl refl,
  (
    value_good (leaf 1).rules false (rule_at (leaf 1).rules 1) refl refl refl refl,
    (
      value_good (leaf 1).rules false (rule_at (leaf 1).rules 2) refl refl refl refl,
      (help_good (leaf 1).rules false (rule_at (leaf 1).rules 3) refl refl refl, tt),
    ),
  ),
)
    refl e)

run_reads : (rows : List Row) → IsRead (leaf 2).rules rows → is_some (run_request rows) ≡ true
run_reads rows read =
    let jobs_given = both (is_given (codes "jobs") rows) _ read.given in
    let jobs = value_there (leaf 2).rules (codes "jobs") rows _ refl read.good (there_if_given _ rows jobs_given.0) in
    let workers = number_there (leaf 2).rules (codes "workers") rows _ 1 64 refl refl (omega arith) read.good
    (there_if_had (codes "workers") rows (read.filled.1.0 refl)) in
    let group = number_there (leaf 2).rules (codes "group") rows _ 1 4096 refl refl (omega arith) read.good
    (there_if_had (codes "group") rows (read.filled.1.1.0 refl)) in
    rw (jobs.1, workers.1, group.1) refl

run_asks : Asks (leaf 2)
unfolding Asks
run_asks args e = run_reads (rows_after (leaf 2).rules [] args) (level_read (leaf 2) args (
  value_good (leaf 2).rules false (rule_at (leaf 2).rules 0) refl refl refl refl,
  (
    value_good (leaf 2).rules false (rule_at (leaf 2).rules 1) refl refl refl refl,
    (
      value_good (leaf 2).rules false (rule_at (leaf 2).rules 2) refl refl refl refl,
      (help_good (leaf 2).rules false (rule_at (leaf 2).rules 3) refl refl refl, tt),
    ),
  ),
)
    refl e)

-- ---- the command

-- a subcommand's name, and what it makes of the words
abbrev rows_below : List Text → Shape → Text × List Row
rows_below args s = rows_at s args

-- words that enter a subcommand and pass ask for something
entered_asks : (a : App) (stop : Option (Text × List Text)) → EachOf Asks a.subs → entered_passes a stop ≡ true
    → is_some (entered a stop) ≡ true
    → is_some (option_and_then (λ found. subcommand_request found.0 found.1) (entered a stop)) ≡ true
unfolding Asks
entered_asks a None each passes met = absurd (true≢false (sym met))
entered_asks a (Some p) each passes met = go (find (λ s. answers_to p.0 (label_of s)) a.subs) refl passes met
  where
    go : (o : Option Shape) → find (λ s. answers_to p.0 (label_of s)) a.subs ≡ o
        → option_map_or (λ s. level_passes s [] nothing_held p.1 false) o true ≡ true
        → is_some (option_map (rows_below p.1) o) ≡ true
        → is_some (option_and_then (λ found. subcommand_request found.0 found.1) (option_map (rows_below p.1) o)) ≡ true
    go None found pass some = absurd (true≢false (sym some))
    go (Some s) found pass some = found_of_each Asks (λ s. answers_to p.0 (label_of s)) a.subs s each found p.1 pass

-- where a subcommand is required, what passes enters one
subcommand_met : (s : Shape) (names : Names) (args : List Text) (has : Bool) → s.subcommand_required ≡ true
    → level_passes s names nothing_held args has ≡ true → has ≡ true
subcommand_met s names args true required e = refl
subcommand_met s names args false required e =
    let end : Held = (walk s.rules names nothing_held args).held in
    let walks = both (walk_passes s names (walk_from nothing_held) args) _ e in
    let settles = both (settle_passes s.rules s.args_override_self end) _ walks.1 in
    let defaults = both (list_all default_passes s.rules) _ settles.1 in
    let helped = both (not s.arg_required_else_help ||
    (false || list_any (λ r. explicit_source r.source) (finished s.rules end))) _ defaults.1 in
    let met = both (not s.subcommand_required || false) _ helped.1 in
    rw required at met.0

pub taken_asks : (args : List Text) → are_arguments_accepted args ≡ true → is_some (request_of args) ≡ true
unfolding are_arguments_accepted
taken_asks args taken =
    let passes = both (is_simple fleet_app)
    (built_takes (built fleet_app) nothing_held (argument_words fleet_app args)) taken in
    let stop = (walk (built fleet_app).top.rules (names_of (built fleet_app)) nothing_held
    (argument_words fleet_app args)).stopped in
    let parts = both (entered_passes (built fleet_app) stop) _ passes.1 in
    entered_asks (built fleet_app) stop (raw_asks, (one_asks, (run_asks, tt))) parts.0
    (subcommand_met (built fleet_app).top (names_of (built fleet_app)) (argument_words fleet_app args)
    (is_some (entered (built fleet_app) stop)) refl parts.1)

-- where a request is read, something is asked
pub some_asked : (asked : Option Value) (args : List Text) → option_map request asked ≡ request_of args
    → are_arguments_accepted args ≡ true → is_some asked ≡ true
some_asked (Some asked) args reads taken = refl
some_asked None args reads taken = ap is_some reads ∙ taken_asks args taken
