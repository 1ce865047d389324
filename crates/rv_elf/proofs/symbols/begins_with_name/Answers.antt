use Rattle.std.proofs.Common.{◌∙◌, ◌&&◌, not, sym, ap, ◌==◌}
use Rattle.std.specs.List.{list_any}
use Rattle.rv_elf.proofs.Finding.{begins_by_bytes, begins_short, begins_without_end, begins_with_end}
use Rattle.rv_elf.proofs.symbols.begins_with_name.Goals as goal
use Rattle.rv_elf.proofs.symbols.begins_with_name.Goals.{then-bytes-text-via-then-bytes-text}
use Rattle.rv_elf.proofs.symbols.begins_with_name.Goals.{then-bytes-text-via-else-bytes-text+then-bytes-text-ne0}

pub returns-then-bytes-text : goal.returns-then-bytes-text
returns-then-bytes-text c = elim c.then-bytes-text.branch [
  | then-bytes-text-via-then-bytes-text w ↦ sym
      (begins_by_bytes c.args.bytes.now c.args.text.now
      ∙ begins_short c.args.bytes.now c.args.text.now w.if-bytes-text.true)
  | then-bytes-text-via-else-bytes-text+then-bytes-text-ne0 w ↦ sym
      (begins_without_end c.args.bytes.now c.args.text.now w.if-bytes-text.false w.if-bytes-text-ne0.true)
]

pub returns-then-starts_with : goal.returns-then-starts_with
returns-then-starts_with c =
    let starts = sym c.starts_with.ensures.value ∙ c.if-starts_with.true in
    ap not c.contains.ensures.value
    ∙ sym (begins_with_end c.args.bytes.now c.args.text.now c.if-bytes-text.false c.if-bytes-text-ne0.false
    ∙ ap (λ s. s && not (list_any (λ y. y == 0) c.args.text.now)) starts)

pub returns-else-starts_with : goal.returns-else-starts_with
returns-else-starts_with c =
    let starts = sym c.starts_with.ensures.value ∙ c.if-starts_with.false in
    c.if-starts_with.false
    ∙ sym (begins_with_end c.args.bytes.now c.args.text.now c.if-bytes-text.false c.if-bytes-text-ne0.false
    ∙ ap (λ s. s && not (list_any (λ y. y == 0) c.args.text.now)) starts)
