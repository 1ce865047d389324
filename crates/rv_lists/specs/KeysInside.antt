-- The value types in the code's table of a job's keys.
use Rattle.std.specs.Prelude.{Bool}
use Rattle.toml.specs.Data.{Data}
use Rattle.rv_lists.specs.declared.keys.ValueType.{ValueType}
use Rattle.rv_lists.specs.declared.keys.ValueType.TheVariants.{Text, Number, Texts, Regions}
use Rattle.rv_lists.specs.Keys.{is_text, is_number, is_text_array, is_region_array}

-- whether a value has this type
abbrev pub is_value_of_type : ValueType → Data → Bool
is_value_of_type Text = is_text
is_value_of_type Number = is_number
is_value_of_type Texts = is_text_array
is_value_of_type Regions = is_region_array
