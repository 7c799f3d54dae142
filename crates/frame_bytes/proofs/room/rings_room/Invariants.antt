-- `rings_room` meets its contract. The invariant: the room so far, with the room of what is left, is the whole room. Assumes nothing.
use Prim.Native.Nat.{◌-◌}
use lib.ListN.{length, drop}
use Rattle.rings.specs.LentRings.{total, ring_room}
use Rattle.frame_bytes.specs.Frame.{read_many, read_ring}
use Rattle.frame_bytes.specs.Internal.{measured_room}
use Rattle.frame_bytes.proofs.Rooms.{Summed}
use Rattle.frame_bytes.proofs.room.rings_room.Given as goal

abbrev pub invariant-loop : goal.invariant-loop
invariant-loop l = Summed read_ring ring_room l.frame
    (measured_room (length l.frame) (total ring_room) (read_many read_ring l.rings (drop l.start l.frame))) l.room l.at (l.rings - l.counter)
