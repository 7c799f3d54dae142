-- `room_of` meets its contract. The invariant: what is measured so far, with the rings that are left, is that of all. Assumes nothing.
use mathlib.Core.Path.{◌≡◌}
use Prim.Native.Nat.{◌+◌, ◌≤◌, max}
use lib.ListN.{length}
use Rattle.sutherland_hodgman.specs.Growth.{most_coordinates}
use Rattle.rings.specs.Internal.{rings_of}
use Rattle.rings.specs.LentRings.{total, largest as most, ring_room}
use Rattle.rings.proofs.lent.room_of.Given as goal

abbrev pub invariant-loop-ring : goal.invariant-loop-ring
invariant-loop-ring l = goal.iterator-loop-ring.can_next l.ring-iterator × goal.iterator-loop-ring.is_finite l.ring-iterator
    × (most ring_room (rings_of l.rings)
    ≡ max l.largest (most ring_room (rings_of l.ring-iterator)))
    × (total ring_room (rings_of l.rings)
    ≡ l.all + total ring_room (rings_of l.ring-iterator))
    × (total length (rings_of l.ring-iterator) ≤ most_coordinates)
