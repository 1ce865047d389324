-- What a parse that succeeds shows of the words: the subcommand and its values, and that no fault is found; and what is told where it
-- fails.
use Rattle.std.proofs.Common.{◌≡◌, ◌∙◌, ◌⊎◌, ap, refl, subst, sym, ⊎_elim, [], List, Option, Some, None, option_map}
use Rattle.std.proofs.Common.{◌∷◌, ◌≤◌, ◌<◌, arith, codes, cond, false, get_or, is_some, length, map, true, IfErr, Result, Ok, Err, inl}
use Rattle.std.specs.Result.{IsErrAnd}
use Rattle.std.specs.Prelude.{Box, IfOk, IfSome}
use Rattle.std.specs.Option.{option_map_or}
use Rattle.std.proofs.lemmas.Result.{IfOk-weaker}
use Rattle.std.specs.Box.{box_value}
use Rattle.clap.proofs.FaultLemmas.{first_fails, past}
use Rattle.clap.specs.Kinds.{IsAmong, or_else}
use Rattle.clap.specs.Simple.{subcommand_rows}
use Rattle.clap.specs.Words.{App, HasKind, HasMatchesOf, Kinds, Row, Text, fault_of, is_simple, kind_of, subcommand_of}
use Rattle.clap.specs.Words.{subcommand_rows_of}
use Rattle.clap.specs.declared.error.Error.{Error}
use Rattle.clap.specs.declared.error.kind.ErrorKind.{ErrorKind}
use Rattle.clap.specs.declared.error.kind.ErrorKind.TheVariants.{OutOfMemory}
use Rattle.clap.specs.declared.parser.matches.ArgMatches.{ArgMatches}
use Rattle.clap.specs.declared.parser.matches.ArgMatches.TheViews.{out-SubCommand}
use Rattle.clap.specs.declared.parser.matches.SubCommand.{SubCommand}
use Rattle.rvtest_cli.specs.RvtestCommand.{rvtest_full_app}
use Rattle.rvtest_cli.specs.RvtestArgs.{FailsByMisuse, IsRequestInRange, IsMisuseReported, value_of_request, help_command_args, is_command_help, is_help}
use Rattle.rvtest_cli.specs.RvtestArgs.{matched_misuse, matched_request, misuse_kinds, plain_error_kinds, plain_misuse, args_error_kinds, args_errors}
use Rattle.rvtest_cli.specs.RvtestArgs.{args_misuse, request_of_args}
use Rattle.rvtest_cli.specs.ArgsErrors.{FailsByKinds, IsErrorOfKinds, IsErrorOfKind}
use Rattle.rvtest_cli.specs.declared.misuse.Misuse.{Misuse}
use Rattle.rvtest_cli.specs.declared.requests.Request.{Request}
use Rattle.rvtest_cli.specs.declared.args_error.ArgsError.{ArgsError}
use Rattle.rvtest_cli.specs.declared.args_error.ArgsError.TheVariants as error

module _ {Z : Type 0} where
  -- a subcommand that was met, by its name and its values
  pub met : (sub : Option (Box SubCommand Z)) (name : Text) (rows : List Row)
      → Some name ≡ option_map (λ b. (out-SubCommand (box_value b)).name.now) sub
      → Some rows ≡ option_map (λ p. p.1) (subcommand_rows sub) → subcommand_rows sub ≡ Some (name, rows)
  met None name rows named valued = cc
  met (Some b) name rows named valued = cc

  -- none was met
  pub none_met : (sub : Option (Box SubCommand Z)) → false ≡ is_some sub → subcommand_rows sub ≡ None
  none_met None none = refl
  none_met (Some b) none = cc

-- a command that is this one has met, with its matches, the subcommand of the words
pub here : (app : App) (args : List Text) (found : ArgMatches) → app ≡ rvtest_full_app → HasMatchesOf app args found
    → subcommand_rows_of found ≡ subcommand_of rvtest_full_app args
here app args found is has = (has (ap is_simple is)).1 ∙ ap (λ a. subcommand_of a args) is

-- where `clap` finds no fault, the faults are options that do not go together
pub faults : (args : List Text) → fault_of rvtest_full_app args ≡ [] → misuse_kinds (plain_misuse args) ≡ plain_error_kinds args
faults args none = sym (past (fault_of rvtest_full_app args) _ none)

-- a fault that `clap` finds is one of the faults
pub refused : (app : App) (args : List Text) (error : Error) → app ≡ rvtest_full_app → HasKind (fault_of app args) error
    → HasKind (plain_error_kinds args) error
refused app args error is has =
    first_fails (fault_of rvtest_full_app args) _ (kind_of error) (subst (λ a. HasKind (fault_of a args) error) is has)

-- an error of one of these kinds is told as one of them
pub plan_text : (kinds : Kinds) (met : ErrorKind) (told : ArgsError) → (met ≡ OutOfMemory) ⊎ IsAmong met kinds
    → IsErrorOfKind met told → IsErrorOfKinds kinds told
plan_text kinds met error.OutOfMemory has is = tt
plan_text kinds met (error.Message fault text) has is =
    ⊎_elim (λ memory. absurd (is.1 memory)) (λ among. subst (λ k. IsAmong k kinds) (sym is.0) among) has

-- where there is none of any kind, memory was wanting
pub none_told : (misuse : Option Misuse) (told : ArgsError) → IsErrorOfKinds [] told → IsMisuseReported misuse told
none_told misuse error.OutOfMemory is = tt
none_told misuse (error.Message fault text) is = absurd is

-- want of memory is no fault of words
pub of_memory : {T : Type 0} (r : Result T ArgsError) (kinds : Kinds) → IsErrAnd r (λ e. e ≡ error.OutOfMemory)
    → FailsByKinds kinds r
of_memory (Ok x) kinds fails = absurd fails
of_memory (Err e) kinds fails = subst (IsErrorOfKinds kinds) (sym fails) tt

pub no_misuse : {T : Type 0} (r : Result T ArgsError) (misuse : Option Misuse) → IsErrAnd r (λ e. e ≡ error.OutOfMemory)
    → IfErr r (IsMisuseReported misuse)
no_misuse (Ok x) misuse fails = absurd fails
no_misuse (Err e) misuse fails = subst (IsMisuseReported misuse) (sym fails) tt

-- options that do not go together are a fault of their kind
pub kinds_of_misuse : {T : Type 0} (misuse : Option Misuse) (r : Result T ArgsError) → FailsByMisuse misuse r
    → FailsByKinds (misuse_kinds misuse) r
kinds_of_misuse misuse (Ok x) fails = ap misuse_kinds fails
kinds_of_misuse misuse (Err error.OutOfMemory) fails = tt
kinds_of_misuse None (Err (error.Message fault text)) fails = absurd fails
kinds_of_misuse (Some misuse) (Err (error.Message fault text)) fails = subst (IsAmong fault) (sym fails.0) (inl refl)

pub told_where_failed : {T : Type 0} (misuse : Option Misuse) (r : Result T ArgsError) → FailsByMisuse misuse r
    → IfErr r (IsMisuseReported misuse)
told_where_failed misuse (Ok x) fails = tt
told_where_failed misuse (Err e) fails = fails

-- ---- the help of a command

or_none : (kinds : Kinds) → or_else kinds [] ≡ kinds
or_none [] = refl
or_none (kind ∷ kinds) = refl

-- nothing is within every range
pub help_within : (r : Result (Option Request) ArgsError) → IfOk r (λ request. request ≡ None)
    → IfOk r (λ request. IfSome request IsRequestInRange)
help_within r none = IfOk-weaker r _ _ (λ request nothing. subst (λ a. IfSome a IsRequestInRange) (sym nothing) tt) none

-- arguments that request it, in whose place an option requests the same help
module _ (args help : List Text) (is : help_command_args args ≡ Some help) where
  pub help_value : (r : Result (Option Request) ArgsError) → IfOk r (λ request. request ≡ None)
      → IfOk r (λ request. option_map value_of_request request ≡ request_of_args args)
  help_value r none =
      IfOk-weaker r _ _ (λ request nothing. ap (option_map value_of_request) nothing
      ∙ sym (ap (λ found. matched_request (option_map_or (λ _. None) found (subcommand_of rvtest_full_app args))) is)) none

  pub help_kinds : {T : Type 0} (r : Result T ArgsError) → FailsByKinds (fault_of rvtest_full_app help) r
      → FailsByKinds (args_error_kinds args) r
  help_kinds r fails =
      let kinds : Option (List Text) → Kinds = λ found. or_else (fault_of rvtest_full_app (option_map_or (λ h. h) found args))
      (misuse_kinds (matched_misuse (option_map_or (λ _. None) found (subcommand_of rvtest_full_app args)))) in
      subst (λ k. FailsByKinds k r) (sym (or_none (fault_of rvtest_full_app help)) ∙ sym (ap kinds is)) fails

  pub help_misused : {T : Type 0} (r : Result T ArgsError) → FailsByKinds (fault_of rvtest_full_app help) r
      → args_errors args ≡ [] → IfErr r (IsMisuseReported (args_misuse args))
  help_misused (Ok x) fails none = tt
  help_misused (Err e) fails none =
      let found : Option (List Text) → Kinds = λ h. fault_of rvtest_full_app (option_map_or (λ h. h) h args) in
      none_told (args_misuse args) e (subst (λ kinds. IsErrorOfKinds kinds e) (sym (ap found is) ∙ none) fails)

-- other arguments, which are parsed as they are
module _ (args : List Text) (none : help_command_args args ≡ None) where
  pub plain_value : (r : Result (Option Request) ArgsError)
      → IfOk r (λ request. option_map value_of_request request ≡ matched_request (subcommand_of rvtest_full_app args))
      → IfOk r (λ request. option_map value_of_request request ≡ request_of_args args)
  plain_value r request = rw none request

  pub plain_kinds : {T : Type 0} (r : Result T ArgsError) → FailsByKinds (plain_error_kinds args) r
      → FailsByKinds (args_error_kinds args) r
  plain_kinds r fails = rw none fails

  pub plain_misused : {T : Type 0} (r : Result T ArgsError)
      → (fault_of rvtest_full_app args ≡ [] → IfErr r (IsMisuseReported (plain_misuse args)))
      → args_errors args ≡ [] → IfErr r (IsMisuseReported (args_misuse args))
  plain_misused r misused = rw none misused

-- ---- which arguments request the help of a command

module _ {X : Type 0} (text : X → Text) where
  pub help_of_two : (args : List X) (program word : X) → 2 ≤ length args → length args < 3
      → program ≡ get_or args 0 program → word ≡ get_or args 1 word → is_help (text word) ≡ true
      → help_command_args (map text args) ≡ Some (text program ∷ codes "--help" ∷ [])
  unfolding help_command_args
  help_of_two [] program word least below first second is = absurd (omega (arith, least))
  help_of_two (x ∷ []) program word least below first second is = absurd (omega (arith, least))
  help_of_two (x ∷ y ∷ []) program word least below first second is =
      let named : is_help (text y) ≡ true = ap (λ one. is_help (text one)) (sym second) ∙ is in
      ap (λ help. cond help (Some (text x ∷ codes "--help" ∷ [])) None) named
      ∙ ap (λ one. Some (text one ∷ codes "--help" ∷ [])) (sym first)
  help_of_two (x ∷ y ∷ z ∷ rest) program word least below first second is = absurd (omega (arith, below))

  pub help_of_three : (args : List X) (program word topic : X) → 3 ≤ length args → length args < 4
      → program ≡ get_or args 0 program → word ≡ get_or args 1 word → topic ≡ get_or args 2 topic
      → is_command_help (text word) (text topic) ≡ true
      → help_command_args (map text args) ≡ Some (text program ∷ text topic ∷ codes "--help" ∷ [])
  unfolding help_command_args
  help_of_three [] program word topic least below first second third is = absurd (omega (arith, least))
  help_of_three (x ∷ []) program word topic least below first second third is = absurd (omega (arith, least))
  help_of_three (x ∷ y ∷ []) program word topic least below first second third is = absurd (omega (arith, least))
  help_of_three (x ∷ y ∷ z ∷ []) program word topic least below first second third is =
      let named : is_command_help (text y) (text z) ≡ true =
      (λ i. is_command_help (text (sym second i)) (text (sym third i))) ∙ is in
      ap (λ help. cond help (Some (text x ∷ text z ∷ codes "--help" ∷ [])) None) named
      ∙ (λ i. Some (text (sym first i) ∷ text (sym third i) ∷ codes "--help" ∷ []))
  help_of_three (x ∷ y ∷ z ∷ u ∷ rest) program word topic least below first second third is = absurd (omega (arith, below))

  -- others do not

  pub few_words : (args : List X) → length args < 2 → help_command_args (map text args) ≡ None
  unfolding help_command_args
  few_words [] few = refl
  few_words (x ∷ []) few = refl
  few_words (x ∷ y ∷ rest) few = absurd (omega (arith, few))

  pub other_of_two : (args : List X) (word : X) → 2 ≤ length args → length args < 3 → word ≡ get_or args 1 word
      → is_help (text word) ≡ false → help_command_args (map text args) ≡ None
  unfolding help_command_args
  other_of_two [] word least below second is = refl
  other_of_two (x ∷ []) word least below second is = refl
  other_of_two (x ∷ y ∷ []) word least below second is =
      let named : is_help (text y) ≡ false = ap (λ one. is_help (text one)) (sym second) ∙ is in
      ap (λ help. cond help (Some (text x ∷ codes "--help" ∷ [])) None) named
  other_of_two (x ∷ y ∷ z ∷ rest) word least below second is = absurd (omega (arith, below))

  pub other_of_three : (args : List X) (word topic : X) → 3 ≤ length args → length args < 4
      → word ≡ get_or args 1 word → topic ≡ get_or args 2 topic → is_command_help (text word) (text topic) ≡ false
      → help_command_args (map text args) ≡ None
  unfolding help_command_args
  other_of_three [] word topic least below second third is = refl
  other_of_three (x ∷ []) word topic least below second third is = refl
  other_of_three (x ∷ y ∷ []) word topic least below second third is = absurd (omega (arith, least))
  other_of_three (x ∷ y ∷ z ∷ []) word topic least below second third is =
      let named : is_command_help (text y) (text z) ≡ false =
      (λ i. is_command_help (text (sym second i)) (text (sym third i))) ∙ is in
      ap (λ help. cond help (Some (text x ∷ text z ∷ codes "--help" ∷ [])) None) named
  other_of_three (x ∷ y ∷ z ∷ u ∷ rest) word topic least below second third is = absurd (omega (arith, below))

  pub many_words : (args : List X) → 4 ≤ length args → help_command_args (map text args) ≡ None
  unfolding help_command_args
  many_words [] many = refl
  many_words (x ∷ []) many = refl
  many_words (x ∷ y ∷ []) many = absurd (omega (arith, many))
  many_words (x ∷ y ∷ z ∷ []) many = absurd (omega (arith, many))
  many_words (x ∷ y ∷ z ∷ u ∷ rest) many = refl
