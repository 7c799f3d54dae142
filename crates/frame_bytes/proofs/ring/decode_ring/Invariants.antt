-- `decode_ring` meets its contract. The invariant: what is left, written over what stands there, is the whole written over what stood
-- there. Assumes nothing.
use mathlib.Core.Path.{◌≡◌}
use Prim.Native.Nat.{◌*◌, ◌≤◌}
use lib.ListN.{length, drop}
use lib.Seq.{sets}
use Rattle.tile.specs.Ring.{flat}
use Rattle.frame_bytes.specs.Frame.{coords_of}
use Rattle.frame_bytes.proofs.Coordinates.{left}
use Rattle.frame_bytes.proofs.ring.decode_ring.Given as goal

abbrev pub invariant-loop-i : goal.invariant-loop-i
invariant-loop-i l = (l.i ≤ l.from.n) × (length l.ring ≡ length l.initial.ring) × (sets l.initial.ring 0 (flat (coords_of l.from.n (drop l.from.at l.from.frame.now))) ≡ sets l.ring (2 * l.i)
    (flat (left l.from.frame.now l.from.at l.from.n l.i)))
