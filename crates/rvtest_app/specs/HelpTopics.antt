-- What `help` prints for a topic that is not a command.
use Rattle.std.specs.Prelude.{◌≡◌, ◌⊎◌, ◌++◌, ℕ, List, codes}
use Rattle.rv_command.specs.Stops.{IsStop}
use Rattle.rv_command.specs.declared.stop.Stop.{Stop}
use Rattle.rv_command.specs.declared.stop.Stop.TheVariants as stops
use Rattle.rv_job_text.specs.Printable.{printable_value}
use Rattle.rvtest_app.specs.declared.list_keys.TheConstants.{LIST_KEYS}

-- the topic about the keys of a job list
abbrev pub keys_topic : List ℕ
keys_topic = codes "keys"

-- the topic is `keys`, the only topic that is not a command; the text describes the keys of a list, and the status is 0
abbrev pub IsTopicPrinted : List ℕ → List ℕ → ℕ → Type 0
IsTopicPrinted topic text status = (topic ≡ keys_topic) × ((text ≡ LIST_KEYS.now) × (status ≡ 0))

-- the message for an unknown topic
abbrev pub no_topic_message : List ℕ → List ℕ
no_topic_message topic = codes "rvtest: unknown help topic \"" ++ printable_value topic
    ++ codes "\": try \"help keys\" for the keys of a list, or \"help COMMAND\" for a command\n"

-- why `help` stopped: memory ran out, or the topic is unknown and the message names it
abbrev pub IsNoTopicStop : List ℕ → Stop → Type 0
IsNoTopicStop topic stop = (stop ≡ stops.OutOfMemory)
    ⊎ ((topic ≡ keys_topic → ⊥) × IsStop 2 (no_topic_message topic) stop)
