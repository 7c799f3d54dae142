-- `rings_room` meets its contract. The invariant: the room so far, with the room of what is left, is the whole room. Assumes nothing.
use mathlib.Core.Path.{◌≡◌, sym}
use Prim.Native.Nat.{◌+◌, ◌-◌}
use native.Mathlib.Omega.{arith}
use lib.ListN.{length, drop}
use Rattle.rings.specs.LentRings.{ring_room}
use Rattle.frame_bytes.specs.Frame.{read_ring}
use Rattle.frame_bytes.proofs.Readings.{ring_reads}
use Rattle.frame_bytes.proofs.Rooms.{sum-here, sum_step, sum_end, rings-le}
use Rattle.frame_bytes.proofs.room.rings_room.Goals as goal

pub ring_room-ring-requires : goal.ring_room-ring-requires
ring_room-ring-requires c = let l = c.loop in let k = c.args.rings - l.counter in (
  l.invariant.within,
  sum-here read_ring ring_room c.args.frame.now l.at k
      (omega arith) l.invariant.accepted,
)

pub overflow_add-room : goal.overflow_add-room
overflow_add-room c = let f = c.args.frame.now in
    let l = c.loop in let k = c.args.rings - l.counter in
    let s = sum_step read_ring ring_room f ring_reads _ l.room l.at k c.ring_room-ring.result
    (omega arith) c.ring_room-ring.ensures l.invariant in
    let e = s.sum in omega (arith, rings-le (length f) c.args.rings (drop c.args.start f) c.requires.2)

pub loop-preserved : goal.loop-preserved
loop-preserved c = let next : c.args.rings - (c.loop.counter + 1) ≡ c.args.rings - c.loop.counter - 1 = omega arith in let f = c.args.frame.now in
    let l = c.loop in let k = c.args.rings - l.counter in rw next (sum_step read_ring ring_room f ring_reads _ l.room l.at k c.ring_room-ring.result
    (omega arith) c.ring_room-ring.ensures l.invariant)

pub returns : goal.returns
returns c = let l = c.loop in let k = c.args.rings - l.counter in sym (sum_end read_ring ring_room c.args.frame.now _ l.room l.at k
    (omega arith) l.invariant)
