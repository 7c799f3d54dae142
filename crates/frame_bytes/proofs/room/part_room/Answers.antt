-- `part_room` meets its contract. Assumes nothing.
use Prim.Native.Nat.{◌+◌, ◌*◌, ◌≤◌}
use native.Mathlib.Omega.{arith}
use lib.ListN.{length, drop}
use Rattle.rings.specs.LentRings.{most_rings}
use Rattle.frame_bytes.specs.Frame.{count_of}
use Rattle.frame_bytes.proofs.PartRings.{part-rings}
use Rattle.frame_bytes.proofs.Rooms.{part-passed, most_ring, rings-le}
use Rattle.frame_bytes.proofs.room.part_room.Goals as goal
use Rattle.frame_bytes.proofs.room.part_room.Goals.{After-struct_known-1}

-- the room of the rings is small enough to be multiplied
few-rings : (c : After-struct_known-1) → c.rings_room-cut.result.room ≤ most_rings * most_ring
few-rings c =
    let n = c.count_at-rings.ensures.0 in
    let f = c.args.part.frame.now in
    let p = part-rings f c.args.part.at c.args.part.within c.args.part.accepted in
    rw (c.rings_room-cut.ensures, n) (omega (
      arith,
      p.few,
      rings-le (length f) (count_of (drop c.args.part.at f))
          (drop (c.args.part.at + 2) f) p.accepted,
    ))

pub count_at-rings-requires : goal.count_at-rings-requires
count_at-rings-requires c = omega (arith, (part-rings c.args.part.frame.now c.args.part.at c.args.part.within c.args.part.accepted).whole)

pub rings_room-cut-requires : goal.rings_room-cut-requires
rings_room-cut-requires c = let n = c.count_at-rings.ensures.0 in
    let p = part-rings c.args.part.frame.now c.args.part.at c.args.part.within c.args.part.accepted in (p.whole, rw n p.few, rw n p.accepted)

pub overflow_mul-result-2 : goal.overflow_mul-result-2
overflow_mul-result-2 c = omega (arith, few-rings (goal.at.overflow_mul-result-2 c).After-struct_known-1)

pub overflow_add-result-2 : goal.overflow_add-result-2
overflow_add-result-2 c = omega (arith, few-rings (goal.at.overflow_add-result-2 c).After-struct_known-1)

pub returns : goal.returns
returns c = let n = c.count_at-rings.ensures.0 in
    let f = c.args.part.frame.now in rw (part-passed f c.args.part.at c.args.part.within c.args.part.accepted c.rings_room-cut.result (rw n at c.rings_room-cut.ensures), n)
