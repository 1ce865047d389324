use Rattle.std.proofs.Common.{◌≡◌, map, take}
use Rattle.rv_merge.specs.Parts.{bytes_of_texts}
use Rattle.rvtest_app.proofs.merge.text_slices.Given as goal

abbrev pub invariant-loop-text : goal.invariant-loop-text
invariant-loop-text l =
    bytes_of_texts l.slices.items ≡ map (λ text. text.items) (take l.text-index l.texts)
