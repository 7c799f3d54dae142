-- `check_room` meets its contract: each return rewrites the definition by the tests that led there. Assumes nothing.
use native.Mathlib.Omega.{arith}
use borrow.Author.Tests.{lt-ltb, le-ltb}
use Rattle.rings.proofs.LentRings.{length-closed}
use Rattle.slices.specs.SliceCall.{slice_call_room, slice_call_origin_room, check_room}
use Rattle.slices.proofs.Checks.{few_rooms}
use Rattle.slices.proofs.call.check_room.Goals as goal

pub overflow_mul-room : goal.overflow_mul-room
overflow_mul-room c = omega (arith, (few_rooms c.args.rings.lengths.now c.args.rings.coords.now c.args.rings.lent.few c.requires).0, c.room_of-room.ensures.largest-room)

pub overflow_mul-asked : goal.overflow_mul-asked
overflow_mul-asked c = omega (
  arith,
  (few_rooms c.args.rings.lengths.now c.args.rings.coords.now c.args.rings.lent.few c.requires).1,
  c.room_of-room.ensures.whole_room,
)

pub returns-then-out-asked : goal.returns-then-out-asked
unfolding check_room slice_call_room slice_call_origin_room
returns-then-out-asked c = let room = c.room_of-room.ensures in rw (
  ← room.largest-room,
  ← room.whole_room,
  le-ltb _ _ c.if-scratch-room.false,
  le-ltb _ _ c.if-origin_scratch-room.false,
  le-ltb _ _ c.if-order-room.false,
  lt-ltb _ _ c.if-out-asked.true,
)

pub returns-then-out_lengths-rings : goal.returns-then-out_lengths-rings
unfolding check_room slice_call_room slice_call_origin_room
returns-then-out_lengths-rings c = let room = c.room_of-room.ensures in
    let a = c.args in rw (
      ← room.largest-room,
      ← room.whole_room,
      le-ltb _ _ c.if-scratch-room.false,
      le-ltb _ _ c.if-origin_scratch-room.false,
      le-ltb _ _ c.if-order-room.false,
      le-ltb _ _ c.if-out-asked.false,
      length-closed a.rings.lengths.now a.rings.coords.now,
      lt-ltb _ _ c.if-out_lengths-rings.true,
    )

pub returns-then-out_origins-asked : goal.returns-then-out_origins-asked
unfolding check_room slice_call_room slice_call_origin_room
returns-then-out_origins-asked c = let room = c.room_of-room.ensures in
    let a = c.args in rw (
      ← room.largest-room,
      ← room.whole_room,
      le-ltb _ _ c.if-scratch-room.false,
      le-ltb _ _ c.if-origin_scratch-room.false,
      le-ltb _ _ c.if-order-room.false,
      le-ltb _ _ c.if-out-asked.false,
      length-closed a.rings.lengths.now a.rings.coords.now,
      le-ltb _ _ c.if-out_lengths-rings.false,
      lt-ltb _ _ c.if-out_origins-asked.true,
    )

pub returns : goal.returns
unfolding check_room slice_call_room slice_call_origin_room
returns c = let room = c.room_of-room.ensures in
    let a = c.args in rw (
      ← room.largest-room,
      ← room.whole_room,
      le-ltb _ _ c.if-scratch-room.false,
      le-ltb _ _ c.if-origin_scratch-room.false,
      le-ltb _ _ c.if-order-room.false,
      le-ltb _ _ c.if-out-asked.false,
      length-closed a.rings.lengths.now a.rings.coords.now,
      le-ltb _ _ c.if-out_lengths-rings.false,
      le-ltb _ _ c.if-out_origins-asked.false,
    )
