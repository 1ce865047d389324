-- The lines of nodes, built from an index of the fields that all lines of one function share.
use Rattle.std.specs.Prelude.{◌≡◌, ◌++◌, ℕ, List, [], Option, Some, None, option_map, codes}
use Rattle.std.specs.BTreeMap.{BTreeMap, get}
use Rattle.std.specs.Fmt.{decimal}
use Rattle.std.specs.Ordering.{nat_cmp}
use Rattle.rv_text.specs.Numbers.{word_digits}
use Rattle.rv_count_tables.specs.declared.table.FunctionName.{FunctionName}
use Rattle.rv_count_tables.specs.declared.text.FunctionFields.{FunctionFields}
use Rattle.rv_count_tables.specs.Table.{name_of}
use Rattle.rv_count_tables.specs.Text.{line, node_line}
use Rattle.rv_call_tree.specs.declared.call_node.CallNode.{CallNode}

-- the fields that all lines of a function share: the digits of its address, and its name
abbrev pub fields_of_function : ℕ → List ℕ → FunctionFields
fields_of_function function name = record { digits = word_digits function; name = name }

-- the index maps each function in the list to its fields, with its first name there, and has no other functions
abbrev pub IsIndexOf : List FunctionName → BTreeMap ℕ FunctionFields → Type 0
IsIndexOf names index = (function : ℕ)
    → get nat_cmp index function ≡ option_map (fields_of_function function) (name_of function names)

-- the fields of a node's line before the name, where the address of the function is written with these digits
unfoldable pub fields_with_digits : List ℕ → CallNode → List ℕ
fields_with_digits digits node = codes "spot " ++ decimal node.depth ++ codes " " ++ digits ++ codes " "
    ++ decimal node.calls ++ codes " " ++ decimal node.steps

-- the line of a node with this name, where the address of the function is written with these digits
unfoldable pub node_line_with_digits : List ℕ → CallNode → List ℕ → List ℕ
node_line_with_digits digits node name = line (fields_with_digits digits node ++ codes " " ++ name)

-- the line of a node with these fields of its function, or with an empty name if there are none
abbrev pub line_by_fields : Option FunctionFields → CallNode → List ℕ
line_by_fields None node = node_line (record { node = node; name = [] })
line_by_fields (Some fields) node = node_line_with_digits fields.digits node fields.name

-- the line of a node with the fields of its function in the index, or with an empty name if it has none
unfoldable pub line_by_index : BTreeMap ℕ FunctionFields → CallNode → List ℕ
line_by_index index node = line_by_fields (get nat_cmp index node.function) node
