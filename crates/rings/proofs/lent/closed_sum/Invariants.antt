-- `closed_sum` meets its contract. The invariant: the count so far, with that of the rings that are left, is that of all. Assumes nothing.
use mathlib.Core.Path.{◌≡◌}
use Prim.Native.Nat.{◌+◌}
use lib.ListN.{length}
use Rattle.rings.specs.Internal.{rings_of}
use Rattle.rings.specs.LentRings.{total}
use Rattle.rings.proofs.lent.closed_sum.Given as goal

abbrev pub invariant-loop-ring : goal.invariant-loop-ring
invariant-loop-ring l = goal.iterator-loop-ring.can_next l.ring-iterator × goal.iterator-loop-ring.is_finite l.ring-iterator
    × (total length (rings_of l.rings)
    ≡ l.count + total length (rings_of l.ring-iterator))
