-- `segments::are_boxes_apart` meets its contract. Assumes nothing.
use Rattle.exact.specs.Segments.{boxes_apart}
use Rattle.exact.proofs.segments.are_boxes_apart.Goals as goal

pub returns-then-are_ranges_apart : goal.returns-then-are_ranges_apart
unfolding boxes_apart
returns-then-are_ranges_apart c =
    rw (← c.a.view_is, ← c.b.view_is, ← c.c.view_is, ← c.d.view_is, ← c.are_ranges_apart.ensures, c.if-are_ranges_apart.true)

pub returns-else-are_ranges_apart : goal.returns-else-are_ranges_apart
unfolding boxes_apart
returns-else-are_ranges_apart c =
    rw (← c.a.view_is, ← c.b.view_is, ← c.c.view_is, ← c.d.view_is, ← c.are_ranges_apart.ensures, c.if-are_ranges_apart.false)
    c.are_ranges_apart-else-are_ranges_apart.ensures
