-- `polygon_rect_all_rings` meets its contract. The invariant: the rectangle so far, with the rings that are left, is that of all. Assumes
-- nothing.
use mathlib.Core.Path.{◌≡◌}
use Rattle.rings.specs.Rectangle.{rectangle, with_rings}
use Rattle.rings.specs.Internal.{rings_of}
use Rattle.rings.proofs.lent.polygon_rect_all_rings.Given as goal

abbrev pub invariant-loop-ring : goal.invariant-loop-ring
invariant-loop-ring l = goal.iterator-loop-ring.can_next l.ring-iterator × goal.iterator-loop-ring.is_finite l.ring-iterator
    × (rectangle (rings_of l.rings)
    ≡ with_rings l.rect (rings_of l.ring-iterator))
