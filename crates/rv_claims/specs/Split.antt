-- The pass that a failed split returns.
use Rattle.rv_claims.specs.Passes.{PassView}
use Rattle.rv_claims.specs.declared.pass.SplitError.{SplitError}
use Rattle.rv_claims.specs.declared.pass.SplitError.TheVariants.{Full}

-- the pass that a failed split returns unchanged
abbrev pub pass_of_error : SplitError → PassView
pass_of_error (Full p) = p
