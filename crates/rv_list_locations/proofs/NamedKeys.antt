-- One more key that stands where its text begins.
use Rattle.std.proofs.Common.{◌≡◌, Bool, true, false, List, [], ◌∷◌, ◌++◌, cond}
use Rattle.std.proofs.lemmas.List.Elements.{All-push}
use Rattle.std.specs.List.{All}
use Rattle.rv_list_locations.specs.NamedKeys.{IsNamedKey}
use Rattle.rv_list_locations.specs.declared.keys.JobKey.{JobKey}

-- it was pushed or not
pub named_pushed : (is_pushed : Bool) (keys after : List JobKey) (found : JobKey)
    → after ≡ cond is_pushed (keys ++ found ∷ []) keys → All IsNamedKey keys → IsNamedKey found → All IsNamedKey after
named_pushed true keys after found eq are is = rw eq (All-push IsNamedKey keys found are is)
named_pushed false keys after found eq are is = rw eq are
