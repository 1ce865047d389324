use Rattle.std.proofs.Common.{◌≡◌, ◌++◌, take, string_bytes}
use Rattle.std.specs.List.{flat_map}
use Rattle.rv_junit.specs.XmlPieces.{piece_text}
use Rattle.rv_junit.proofs.xml_pieces.push_xml_pieces.Given as goal

abbrev pub invariant-loop-piece : goal.invariant-loop-piece
invariant-loop-piece l = string_bytes l.text
    ≡ string_bytes l.fn.text ++ flat_map piece_text (take l.piece-index l.pieces)
