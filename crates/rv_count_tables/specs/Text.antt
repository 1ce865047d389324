-- The text of a table of counts: a first line, each image with its addresses and its call tree, and a last line.
use Rattle.std.specs.Prelude.{ℕ, List, [], ◌∷◌, ◌++◌, Option, Some, None, length, codes}
use Rattle.std.specs.List.{flat_map}
use Rattle.std.specs.Fmt.{decimal}
use Rattle.hex.specs.Hex.{encode_lower}
use Rattle.rv_text.specs.Numbers.{word_digits}
use Rattle.rv_count_tables.specs.declared.table.AddressCounts.{AddressCounts}
use Rattle.rv_count_tables.specs.declared.table.FunctionName.{FunctionName}
use Rattle.rv_count_tables.specs.declared.table.ImageCounts.{ImageCounts}
use Rattle.rv_count_tables.specs.declared.table.NamedCallNode.{NamedCallNode}
use Rattle.rv_count_tables.specs.declared.table.CountTable.{CountTable}
use Rattle.rv_count_tables.specs.Table.{name_of}
use Rattle.rv_call_tree.specs.declared.call_node.CallNode.{CallNode}

-- the text with a line feed at its end
abbrev pub line : List ℕ → List ℕ
line text = text ++ 10 ∷ []

-- the first line of a table: the format and its version
abbrev pub first_line : List ℕ
first_line = line (codes "rvcounts 1")

-- the line `ADDRESS EXECUTED TAKEN` of an address
unfoldable pub address_line : AddressCounts → List ℕ
address_line c = line (word_digits c.address ++ codes " " ++ decimal c.executed ++ codes " " ++ decimal c.taken)

-- the fields `spot DEPTH FUNCTION CALLS STEPS` of a node
unfoldable pub fields_of_node : CallNode → List ℕ
fields_of_node node = codes "spot " ++ decimal node.depth ++ codes " " ++ word_digits node.function ++ codes " "
    ++ decimal node.calls ++ codes " " ++ decimal node.steps

-- the line `spot DEPTH FUNCTION CALLS STEPS NAME` of a node
unfoldable pub node_line : NamedCallNode → List ℕ
node_line n = line (fields_of_node n.node ++ codes " " ++ n.name)

-- the name, or an empty text if there is no name
abbrev pub name_or_empty : Option (List ℕ) → List ℕ
name_or_empty None = []
name_or_empty (Some name) = name

-- a node with the name of its function in the list, or with an empty name if the list has none
abbrev pub named : List FunctionName → CallNode → NamedCallNode
named names node = record { node = node; name = name_or_empty (name_of node.function names) }

-- the line of a node, with the name of its function in the list
abbrev pub line_of_node : List FunctionName → CallNode → List ℕ
line_of_node names node = node_line (named names node)

-- the line `image DIGEST PATH` of an image
unfoldable pub image_line : ImageCounts → List ℕ
image_line i = line (codes "image " ++ encode_lower i.digest ++ codes " " ++ i.path)

-- the lines of an image: first its own line, then the lines of its addresses, then the lines of its nodes
unfoldable pub image_text : ImageCounts → List ℕ
image_text i = image_line i ++ flat_map address_line i.addresses ++ flat_map (line_of_node i.functions) i.nodes

-- the last line `done IMAGES RUNS` of a table with these numbers of images and runs
unfoldable pub last_line : ℕ → ℕ → List ℕ
last_line image_count runs = line (codes "done " ++ decimal image_count ++ codes " " ++ decimal runs)

-- the text of a table
unfoldable pub table_text : CountTable → List ℕ
table_text t = first_line ++ flat_map image_text t.images ++ last_line (length t.images) t.runs
