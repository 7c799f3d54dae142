-- `has_huge_ring` meets its contract. The invariant: a ring that is left is huge if one of all is. Assumes nothing.
use mathlib.Core.Path.{◌≡◌}
use Rattle.rings.specs.Representable.{any_huge_ring}
use Rattle.rings.specs.Internal.{rings_of}
use Rattle.rings.proofs.lent.has_huge_ring.Given as goal

abbrev pub invariant-loop-ring : goal.invariant-loop-ring
invariant-loop-ring l = goal.iterator-loop-ring.can_next l.ring-iterator × goal.iterator-loop-ring.is_finite l.ring-iterator
    × (any_huge_ring (rings_of l.rings)
    ≡ any_huge_ring (rings_of l.ring-iterator))
