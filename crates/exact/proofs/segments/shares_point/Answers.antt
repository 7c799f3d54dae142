-- `segments::shares_point` meets its contract. Assumes nothing.
use Rattle.exact.specs.Segments.{shares_point}
use Rattle.exact.proofs.segments.shares_point.Goals as goal

pub returns-then-are_boxes_apart : goal.returns-then-are_boxes_apart
unfolding shares_point
returns-then-are_boxes_apart c = rw (← c.are_boxes_apart.ensures, c.if-are_boxes_apart.true)

pub returns-then-are_one_side : goal.returns-then-are_one_side
unfolding shares_point
returns-then-are_one_side c = rw (
  ← c.are_boxes_apart.ensures,
  c.if-are_boxes_apart.false,
  ← c.are_one_side.ensures,
  c.if-are_one_side.true,
)

pub returns : goal.returns
unfolding shares_point
returns c = rw (
  ← c.are_boxes_apart.ensures,
  c.if-are_boxes_apart.false,
  ← c.are_one_side.ensures,
  c.if-are_one_side.false,
  ← c.are_one_side-2.ensures,
)
