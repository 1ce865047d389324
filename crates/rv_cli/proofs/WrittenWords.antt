-- The command line's definitions, computed at words that are written out.
use Rattle.std.proofs.Common.{◌≡◌, refl, true, false, [], ◌∷◌, None, Some, codes}
use Rattle.clap.specs.Words.{fault_of, takes}
use Rattle.clap.specs.declared.error.kind.ErrorKind.TheVariants as kind
use Rattle.clap.proofs.OnLiterals.{clap_on_literals}
use Rattle.rv_cli.specs.RvfleetCommand.{fleet_app, one, raw, request_of, run}

raw_is_taken : takes fleet_app (codes "rvfleet" ∷ codes "raw" ∷ codes "--budget" ∷ codes "3" ∷ []) ≡ true
unfolding clap_on_literals
raw_is_taken = refl

raw_asks : request_of (codes "rvfleet" ∷ codes "raw" ∷ codes "--budget" ∷ codes "3" ∷ []) ≡ Some (raw 3)
unfolding clap_on_literals
raw_asks = refl

greatest_budget : request_of (codes "rvfleet" ∷ codes "raw" ∷ codes "--budget=1000000000" ∷ []) ≡ Some (raw 1000000000)
unfolding clap_on_literals
greatest_budget = refl

no_budget : takes fleet_app (codes "rvfleet" ∷ codes "raw" ∷ []) ≡ false
unfolding clap_on_literals
no_budget = refl

budget_zero : takes fleet_app (codes "rvfleet" ∷ codes "raw" ∷ codes "--budget=0" ∷ []) ≡ false
unfolding clap_on_literals
budget_zero = refl

budget_above : takes fleet_app (codes "rvfleet" ∷ codes "raw" ∷ codes "--budget=1000000001" ∷ []) ≡ false
unfolding clap_on_literals
budget_above = refl

one_is_taken : takes fleet_app (codes "rvfleet" ∷ codes "one" ∷ codes "a.elf" ∷ codes "--budget" ∷ codes "3" ∷ [])
    ≡ true
unfolding clap_on_literals
one_is_taken = refl

one_asks : request_of (codes "rvfleet" ∷ codes "one" ∷ codes "a.elf" ∷ codes "--budget" ∷ codes "3" ∷ [])
    ≡ Some (one (codes "a.elf") 3 None)
unfolding clap_on_literals
one_asks = refl

one_asks_with_input : request_of
    (codes "rvfleet" ∷ codes "one" ∷ codes "--input-hex" ∷ codes "4142" ∷ codes "--budget=3" ∷ codes "a" ∷ [])
    ≡ Some (one (codes "a") 3 (Some (codes "4142")))
unfolding clap_on_literals
one_asks_with_input = refl

run_is_taken : takes fleet_app (codes "rvfleet" ∷ codes "run" ∷ codes "a.toml" ∷ []) ≡ true
unfolding clap_on_literals
run_is_taken = refl

run_asks : request_of (codes "rvfleet" ∷ codes "run" ∷ codes "a.toml" ∷ []) ≡ Some (run (codes "a.toml") 1 1)
unfolding clap_on_literals
run_asks = refl

run_asks_with_both : request_of
    (codes "rvfleet" ∷ codes "run" ∷ codes "a.toml" ∷ codes "--workers" ∷ codes "4" ∷ codes "--group=64" ∷ [])
    ≡ Some (run (codes "a.toml") 4 64)
unfolding clap_on_literals
run_asks_with_both = refl

no_image : takes fleet_app (codes "rvfleet" ∷ codes "one" ∷ codes "--budget" ∷ codes "3" ∷ []) ≡ false
unfolding clap_on_literals
no_image = refl

help_is_not_taken : takes fleet_app (codes "rvfleet" ∷ codes "--help" ∷ []) ≡ false
unfolding clap_on_literals
help_is_not_taken = refl

no_version : fault_of fleet_app (codes "rvfleet" ∷ codes "--version" ∷ []) ≡ kind.UnknownArgument ∷ []
unfolding clap_on_literals
no_version = refl
