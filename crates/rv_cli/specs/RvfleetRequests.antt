-- The requests of the code, as contracts see them.
use Rattle.std.specs.Prelude.{◌≤◌, option_map}
use Rattle.rv_base.specs.Limits.{max_budget, max_group, max_workers}
use Rattle.rv_cli.specs.declared.rvfleet.Request.{Request as Value}
use Rattle.rv_cli.specs.declared.rvfleet.Request.TheVariants.{One, Raw, Run}
use Rattle.rv_cli.specs.RvfleetCommand.{Request, one, raw, run}

-- a request, converted from the type of the code to the one that contracts use
abbrev pub request : Value → Request
request (Raw budget) = raw budget
request (One image budget input_hex) =
    one image.now budget (option_map (λ text. text.now) input_hex)
request (Run jobs workers group) = run jobs.now workers group

-- each number in the request is within the range that the command line allows
abbrev pub IsRequestInRange : Value → Type 0
IsRequestInRange (Raw budget) = (1 ≤ budget) × (budget ≤ max_budget)
IsRequestInRange (One image budget input_hex) = (1 ≤ budget) × (budget ≤ max_budget)
IsRequestInRange (Run jobs workers group) = (1 ≤ workers) × (workers ≤ max_workers) × (1 ≤ group) × (group ≤ max_group)
