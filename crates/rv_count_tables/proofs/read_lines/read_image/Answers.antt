-- The line is compared with the one that is written of what it says.
use Rattle.std.proofs.Common.{◌≡◌, ◌∙◌, ◌==◌, ◌+◌, ◌<◌, ℕ, None, List, length, drop, ap, sym, subst}
use Rattle.std.proofs.lemmas.Bool.{and_parts, eqb-true}
use Rattle.std.specs.Cmp.Lexicographic.{bytes_decides}
use Rattle.std.specs.List.{AllByRecursion}
use Rattle.std.specs.Str.{bytes_eq}
use Rattle.rv_count_tables.specs.Lines.{whole_line}
use Rattle.rv_count_tables.specs.Table.{is_greater_than_last}
use Rattle.rv_count_tables.specs.Text.{image_line}
use Rattle.rv_count_tables.specs.ReadSteps.{last_digest, AreParsedAddresses, AreParsedNodes}
use Rattle.rv_count_tables.proofs.ReadingLines.{one_image, no_image_line}
use Rattle.rv_count_tables.proofs.read_lines.read_image.Goals as goal

pub returns-then-not-branch-clause-none : goal.returns-then-not-branch-clause-none
returns-then-not-branch-clause-none c =
    let w = c.whole_line-line.ensures in
    let t = c.if-not-branch.true in
    no_image_line (last_digest None c.args.earlier.now) (whole_line c.args.text.now) c.in_ok-image.image
    (λ i h e. c.in_ok-image.ensures.digest i h (w ∙ e)) (λ i h e. c.in_ok-image.ensures.path i h (w ∙ e))
    (ap (λ (s : List ℕ). bytes_eq s (image_line c.in_ok-image.image)) (sym w) ∙ sym c.in_ok-has_image_line.ensures ∙ t)

pub returns-clause-image : goal.returns-clause-image
returns-clause-image c =
    let text = c.args.text.now in
    let image = c.in_ok-image.image in
    let lines = c.in_ok-lines.lines in
    let nodes = c.in_ok-nodes.nodes in
    let w = c.whole_line-line.ensures in
    let line = c.whole_line-line.result.now in
    let same : line ≡ image_line image = (bytes_decides line (image_line image)).0
    (sym c.in_ok-has_image_line.ensures ∙ c.if-not-branch.false) in
    let d = c.as_slice.ensures in
    let both = and_parts (length c.as_slice.result.now == 32) (is_greater_than_last (last_digest None c.args.earlier.now) c.as_slice.result.now)
    (sym c.can_follow_images.ensures.value ∙ c.if-not-can_follow_images.false) in
    one_image (last_digest None c.args.earlier.now) text image lines nodes
    _ (sym w ∙ same)
    (ap (λ (s : List ℕ). length s) (sym d) ∙ eqb-true (length c.as_slice.result.now) 32 both.0)
    (ap (is_greater_than_last (last_digest None c.args.earlier.now)) (sym d) ∙ both.1)
    (subst (λ (s : List ℕ). AllByRecursion (λ b. b < 256) s) d c.can_follow_images.ensures.bytes) c.in_ok-image.ensures.text
    (record {
      addresses = subst (λ (t : List ℕ). AreParsedAddresses t lines)
          (c.tail_from.ensures ∙ ap (λ (s : List ℕ). drop (length s) text) w) c.in_ok-lines.ensures;
      stacks = subst (λ (t : List ℕ). AreParsedNodes t nodes)
          (c.tail_from-2.ensures ∙ ap (λ (s : List ℕ). drop (length s + lines.length) text) w) c.in_ok-nodes.ensures;
      end = ap (λ (s : List ℕ). length s + lines.length + nodes.length) w;
    })
