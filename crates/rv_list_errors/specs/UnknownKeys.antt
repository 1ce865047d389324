-- How an unknown key is explained.
use Rattle.std.specs.Prelude.{◌≡◌, ◌⊎◌, ℕ, List, Option, Some, None, codes}
use Rattle.toml.specs.Data.{Members}
use Rattle.rv_list_errors.specs.Lines.{BeginsWith}
use Rattle.rv_list_errors.specs.Explanation.{first_unknown_key, is_key_of_owner, unknown_key_text}
use Rattle.rv_list_errors.specs.declared.keys.Owner.TheVariants as owner

-- `message` explains which region of the job has an unknown key, or only says that there is one
abbrev pub ExplainsUnknownRegionKey : List ℕ → Type 0
ExplainsUnknownRegionKey message = BeginsWith (codes "region ") message ⊎ (message ≡ codes "unknown key")

-- `message` explains that this key of the job is unknown or, if no key is given, that a region has an unknown key
abbrev pub ExplainsUnknownJobOrRegionKey : Option (List ℕ) → List ℕ → Type 0
ExplainsUnknownJobOrRegionKey None message = ExplainsUnknownRegionKey message
ExplainsUnknownJobOrRegionKey (Some key) message = BeginsWith (unknown_key_text key) message

-- `message` explains the first unknown key of the job or, if the job itself has none, that a region has an unknown key
abbrev pub ExplainsUnknownKey : Members → List ℕ → Type 0
ExplainsUnknownKey ms message = ExplainsUnknownJobOrRegionKey (first_unknown_key (is_key_of_owner owner.Job) ms) message
