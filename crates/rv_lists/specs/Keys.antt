-- The keys of a job list, and the TOML types of their values.
use Rattle.std.specs.Prelude.{◌+◌, ℕ, ℤ, Bool, true, false, not, ◌&&◌, ◌||◌, List, [], ◌∷◌}
use Rattle.std.specs.Prelude.{Option, codes, option_and_then, is_some}
use Rattle.std.specs.List.{list_all, list_any}
use Rattle.std.specs.Option.{option_map_or}
use Rattle.std.specs.Str.{bytes_eq}
use Rattle.toml.specs.Data.{Data, Items, no_items, item, Members, no_members, member, table, array}
use Rattle.toml.specs.Data.{get_member, as_str, as_integer, as_bool, as_array}

-- ---- values

-- whether at least one item satisfies the predicate `p`
unfoldable pub any_item : (Data → Bool) → Items → Bool
any_item p no_items = false
any_item p (item d ds) = p d || any_item p ds

-- whether every item satisfies the predicate `p`
unfoldable pub all_items : (Data → Bool) → Items → Bool
all_items p no_items = true
all_items p (item d ds) = p d && all_items p ds

-- the number of items
abbrev pub item_count : Items → ℕ
item_count no_items = 0
item_count (item d ds) = item_count ds + 1

-- the text at a key, or `None` if there is no key or its value is not a text
abbrev pub text_at_key : List ℕ → Members → Option (List ℕ)
text_at_key k ms = option_and_then as_str (get_member k ms)

-- the integer at a key, or `None` if there is no key or its value is not an integer
abbrev pub number_at_key : List ℕ → Members → Option ℤ
number_at_key k ms = option_and_then as_integer (get_member k ms)

-- the Boolean at a key, or `None` if there is no key or its value is not a Boolean
abbrev pub boolean_at_key : List ℕ → Members → Option Bool
boolean_at_key k ms = option_and_then as_bool (get_member k ms)

-- the items of the array at a key, or `None` if there is no key or its value is not an array
abbrev pub array_at_key : List ℕ → Members → Option Items
array_at_key k ms = option_and_then as_array (get_member k ms)

-- ---- keys, each with its type

-- a key: its name, and a predicate that is true of the values that have the required type
pub record Key : Type 0 where
  pub name : List ℕ
  pub is_of_type : Data → Bool

-- the key with this name, whose values must satisfy this predicate
abbrev pub key : List ℕ → (Data → Bool) → Key
key name is_of_type = record { name = name; is_of_type = is_of_type }

-- whether the key `k` is missing, or its value satisfies the predicate `p`
abbrev pub is_absent_or : (Data → Bool) → List ℕ → Members → Bool
is_absent_or p k ms = option_map_or p (get_member k ms) true

-- whether each of these keys is missing, or its value has the required type
abbrev pub has_key_types : List Key → Members → Bool
has_key_types keys ms = list_all (λ (k : Key). is_absent_or k.is_of_type k.name ms) keys

-- whether `name` is one of these keys
abbrev pub is_key_among : List Key → List ℕ → Bool
is_key_among keys name = list_any (λ (k : Key). bytes_eq name k.name) keys

-- ---- the keys of a region

-- whether a value is an integer
abbrev pub is_number : Data → Bool
is_number d = is_some (as_integer d)

-- whether a value is a Boolean
abbrev pub is_boolean : Data → Bool
is_boolean d = is_some (as_bool d)

-- the keys that a region may have, each with the type of its value
abbrev pub region_keys : List Key
region_keys =
    key (codes "base") is_number ∷ key (codes "size") is_number ∷ key (codes "write") is_boolean ∷ []

-- ---- the keys of a job

-- whether a value is a text
abbrev pub is_text : Data → Bool
is_text d = is_some (as_str d)

-- whether a value is an array of texts
abbrev pub is_text_array : Data → Bool
is_text_array (array ds) = all_items is_text ds
is_text_array _ = false

-- whether a value is a table whose values have the types that the keys of a region require
abbrev pub is_region : Data → Bool
is_region (table ms) = has_key_types region_keys ms
is_region _ = false

-- whether a value is an array of tables whose values have the types that the keys of a region require
abbrev pub is_region_array : Data → Bool
is_region_array (array ds) = all_items is_region ds
is_region_array _ = false

-- the keys that a job may have, each with the type of its value
abbrev pub job_keys : List Key
job_keys =
    key (codes "name") is_text
    ∷ key (codes "image") is_text
    ∷ key (codes "budget") is_number
    ∷ key (codes "input") is_text
    ∷ key (codes "input_hex") is_text
    ∷ key (codes "region") is_region_array
    ∷ key (codes "load") is_text
    ∷ key (codes "signature") is_text_array
    ∷ key (codes "expect_exit") is_number
    ∷ key (codes "expect_signature") is_text
    ∷ key (codes "expect_console") is_text
    ∷ key (codes "expect_console_file") is_text
    ∷ key (codes "expect_end") is_text
    ∷ key (codes "same_as") is_text
    ∷ key (codes "isa") is_text
    ∷ key (codes "misaligned") is_text
    ∷ []

-- whether a value of a job does not have the type that its key requires; this includes the values in regions and in a signature
unfoldable pub has_wrong_type : Members → Bool
has_wrong_type ms = not (has_key_types job_keys ms)

-- ---- unknown keys

-- whether a job may have a key with this name
abbrev pub is_job_key : List ℕ → Bool
is_job_key name = is_key_among job_keys name

-- whether a region may have a key with this name
abbrev pub is_region_key : List ℕ → Bool
is_region_key name = is_key_among region_keys name

-- whether the whole list may have a key with this name: only `job`
abbrev pub is_list_key : List ℕ → Bool
is_list_key name = bytes_eq name (codes "job")

-- whether a table has a key that does not satisfy `is_known`
unfoldable pub any_unknown_key : (List ℕ → Bool) → Members → Bool
any_unknown_key is_known no_members = false
any_unknown_key is_known (member k d ms) = not (is_known k) || any_unknown_key is_known ms

-- whether a value is a table with a key that regions may not have
abbrev pub region_has_unknown_key : Data → Bool
region_has_unknown_key (table ms) = any_unknown_key is_region_key ms
region_has_unknown_key _ = false

-- whether at least one region of a job has a key that regions may not have
abbrev pub job_has_unknown_region_key : Members → Bool
job_has_unknown_region_key ms =
    option_map_or (any_item region_has_unknown_key) (array_at_key (codes "region") ms) false

-- whether a job has a key that jobs may not have, or one of its regions has a key that regions may not have
unfoldable pub has_unknown_job_or_region_key : Members → Bool
has_unknown_job_or_region_key ms = any_unknown_key is_job_key ms || job_has_unknown_region_key ms
