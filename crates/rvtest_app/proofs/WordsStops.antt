-- What stops the program for its words.
use Rattle.std.proofs.Common.{◌≡◌, ◌⊎◌, ◌∙◌, ℕ, Bool, List, [], MatchOption, Option, Some, None, Result, Ok, Err, IfErr, OnOk, inl, inr, subst, ⊎_elim}
use Rattle.std.specs.Prelude.{IfOk}
use Rattle.clap.specs.Kinds.{IsAmong}
use Rattle.clap.specs.declared.error.kind.ErrorKind.{ErrorKind}
use Rattle.rv_files.specs.Files.{FileContents}
use Rattle.rvtest_cli.specs.RvtestArgs.{IsMisuseReported, misuse_text, args_error_kinds, args_errors, args_misuse}
use Rattle.rvtest_cli.specs.ArgsErrors.{IsErrorOfKinds}
use Rattle.rvtest_cli.specs.declared.args_error.ArgsError.{ArgsError}
use Rattle.rvtest_cli.specs.declared.args_error.ArgsError.TheVariants as error
use Rattle.rv_command.specs.Stops.{IsUsageStop}
use Rattle.rv_command.specs.declared.stop.Stop.{Stop}
use Rattle.rv_command.specs.declared.stop.Stop.TheVariants as stops
use Rattle.rvtest_app.specs.Responses.{RequestHelp, IsCarriedOut}
use Rattle.rvtest_app.specs.CommandOutputs.{CommandOutputs}
use Rattle.rvtest_app.specs.CommandStops.{IsProgramStop}
use Rattle.rvtest_app.specs.ReportedStops.{IsHelpRequested, IsHelpStop, IsHelpWritten, IsArgsErrorStop}

pub ask_for_help : (args : List (List ℕ)) (fault : ErrorKind) → IsAmong fault (args_error_kinds args)
    → IsHelpRequested fault → RequestHelp args
ask_for_help args fault among =
    let Among : ErrorKind → Type 0 = λ k. IsAmong k (args_error_kinds args) in
    ⊎_elim (λ help. inl (subst Among help among)) (λ version. inr (subst Among version among))

by_option : {M : Type 0} (P : Option M → Type 0) (A : Type 0) (Q : M → Type 0) → (P None → A) → ((m : M) → P (Some m) → Q m)
    → (o : Option M) → P o → MatchOption o A Q
by_option P A Q none some None p = none p
by_option P A Q none some (Some m) p = some m p

help_stop : (contents : Option FileContents) (is_terminal : Bool) (args : List (List ℕ)) (before after : ℕ) (stop : Stop) → RequestHelp args
    → IsHelpStop before after stop → IsProgramStop contents is_terminal args stop
help_stop contents is_terminal args before after stop help is =
    ⊎_elim (λ memory. inr (inl memory)) (λ failed. inr (inr (inl (help, failed.0)))) is

-- a fault of words stops the program by its kind
stop_of_error : (contents : Option FileContents) (is_terminal : Bool) (args : List (List ℕ)) (told : ArgsError) (before after : ℕ) (stop : Stop)
    → IsErrorOfKinds (args_error_kinds args) told
    → (args_errors args ≡ [] → IsMisuseReported (args_misuse args) told)
    → IsArgsErrorStop told before after stop → IsProgramStop contents is_terminal args stop
stop_of_error contents is_terminal args error.OutOfMemory before after stop among misused is = inr (inl is)
stop_of_error contents is_terminal args (error.Message fault text) before after stop among misused is =
    ⊎_elim (λ help. help_stop contents is_terminal args before after stop (ask_for_help args fault among help.0) help.1)
    (λ other. inr (inr (inr (record {
      invalid = (fault, (among, other.0));
      rejected = inr other.1.0;
      misuse = λ none. by_option (λ o. IsMisuseReported o (error.Message fault text)) (stop ≡ stops.OutOfMemory)
          (λ misuse. IsUsageStop (misuse_text misuse) stop) (λ told. absurd told)
          (λ misuse told. inr (other.1.0, (told.1.0, other.1.1 ∙ told.1.1))) (args_misuse args) (misused none);
    })))) is

pub words_stop : (contents : Option FileContents) (is_terminal : Bool) (args : List (List ℕ)) (told : ArgsError) (answer : Result ℕ Stop)
    (before after : ℕ) → IsErrorOfKinds (args_error_kinds args) told
    → (args_errors args ≡ [] → IsMisuseReported (args_misuse args) told)
    → IfErr answer (IsArgsErrorStop told before after) → IfErr answer (IsProgramStop contents is_terminal args)
words_stop contents is_terminal args told (Ok status) before after among misused is = tt
words_stop contents is_terminal args told (Err stop) before after among misused is =
    stop_of_error contents is_terminal args told before after stop among misused is

-- where the help was written, the words ask for it, and nothing went to other places
help_requested : (args : List (List ℕ)) (told : ArgsError) (before after : Option (List ℕ)) → IsErrorOfKinds (args_error_kinds args) told
    → IsHelpWritten told before after → RequestHelp args
help_requested args error.OutOfMemory before after among written = absurd written
help_requested args (error.Message fault text) before after among written = ask_for_help args fault among written.0

pub words_answered : (contents : Option FileContents) (input : Option (List ℕ)) (is_terminal is_colored : Bool) (args : List (List ℕ))
    (told : ArgsError) (answer : Result ℕ Stop) (before after : CommandOutputs) → IsErrorOfKinds (args_error_kinds args) told
    → IfOk answer (λ status. status ≡ 0) → OnOk answer (IsHelpWritten told before.out after.out)
    → (after.errors ≡ before.errors) × (after.failures ≡ before.failures) × (after.committed ≡ before.committed)
    → IfOk answer (λ status. IsCarriedOut contents input is_terminal is_colored args status before after)
words_answered contents input is_terminal is_colored args told (Ok status) before after among zero written same =
    inr (inr (help_requested args told before.out after.out among written, zero), same.0, same.1, same.2)
words_answered contents input is_terminal is_colored args told (Err stop) before after among zero written same = tt
