-- The images so far stand behind the text that there was.
use Rattle.std.proofs.Common.{◌≡◌, ◌++◌, take, string_bytes}
use Rattle.std.specs.List.{flat_map}
use Rattle.rv_count_tables.specs.Text.{image_text}
use Rattle.rv_count_tables.proofs.text.push_images.Given as goal

abbrev pub invariant-loop-image : goal.invariant-loop-image
invariant-loop-image l = string_bytes l.text ≡ string_bytes l.fn.text ++ flat_map image_text (take l.image-index l.images)
