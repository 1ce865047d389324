-- The values that `clap` found for arguments.
use Rattle.std.specs.Prelude.{◌&&◌, ◌^◌, ℕ, Bool, false, List, [], Option, Some, None, codes}
use Rattle.std.specs.Prelude.{if◌then◌else◌, is_some, nat_le, nat_lt, option_and_then, unwrap_or}
use Rattle.std.specs.Option.{option_map_or}
use Rattle.std.specs.Str.{bytes_eq}
use Rattle.std.specs.Str.Parse.{digits_value, without_leading_plus}
use Rattle.clap.specs.ValueTests.{is_numeral}
use Rattle.clap.specs.Words.{Row, Text, all_of, first_of, one_of}

-- the value of a decimal number below 2^32, which may begin with a plus sign, or `None` for any other text
abbrev pub parsed_decimal : Text → Option ℕ
parsed_decimal text = let number = digits_value 10 (without_leading_plus text) in
    if is_numeral (without_leading_plus text) && nat_lt number (2 ^ 32) then Some number else None

-- the number, or `None` if it is not from `low` to `high`
abbrev pub number_in_range : ℕ → ℕ → ℕ → Option ℕ
number_in_range low high number =
    if nat_le low number && nat_le number high then Some number else None

-- the number that was given for the argument `id`, or `None` if there is none or it does not fit in 32 bits
abbrev pub parsed_number_value : Text → List Row → Option ℕ
parsed_number_value id rows = option_and_then parsed_decimal (one_of id rows)

-- the number that was given for the argument `id`, or `None` if there is none or it is not from `low` to `high`
abbrev pub number_value : Text → ℕ → ℕ → List Row → Option ℕ
number_value id low high rows = option_and_then (number_in_range low high) (parsed_number_value id rows)

-- whether a text is `true`
abbrev pub is_true : Text → Bool
is_true text = bytes_eq text (codes "true")

-- whether the option `id`, which has no value, was given
abbrev pub is_flag_set : Text → List Row → Bool
is_flag_set id rows = option_map_or is_true (first_of id rows) false

-- all values that were given for the argument `id`, in order
abbrev pub argument_values : Text → List Row → List Text
argument_values id rows = unwrap_or (all_of id rows) []

-- whether the option `id`, which has a value, was given
abbrev pub is_option_given : Text → List Row → Bool
is_option_given id rows = is_some (first_of id rows)
