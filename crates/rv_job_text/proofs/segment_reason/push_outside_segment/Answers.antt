use Rattle.rv_job_text.specs.ImageReasons.{outside_segment_text}
use Rattle.rv_job_text.proofs.segment_reason.push_outside_segment.Goals as goal

pub returns-then-is_file_inside : goal.returns-then-is_file_inside
unfolding outside_segment_text
returns-then-is_file_inside c =
    rw (← c.load_address-from.ensures, ← c.in_one-is_file_inside.ensures, c.if-is_file_inside.true) c.push_address_range.ensures

pub returns-else-is_file_inside : goal.returns-else-is_file_inside
unfolding outside_segment_text
returns-else-is_file_inside c =
    rw (
      ← c.load_address-from.ensures,
      ← c.in_one-is_file_inside.ensures,
      c.if-is_file_inside.false,
      ← c.load_address-from.ensures,
    )
    c.push_address_range-else-is_file_inside.ensures
