-- `room_of` meets its contract. The invariant: what is measured so far, with the rings that are left, is that of all. Assumes nothing.
use mathlib.Core.Path.{◌∙◌, ap}
use native.Mathlib.Omega.{arith}
use lib.ListN.{length}
use Rattle.sutherland_hodgman.specs.Growth.{B}
use Rattle.rings.specs.LentRings.{ring_room}
use Rattle.rings.proofs.LentRings.{total-step, total_end, largest_step, largest_end, rooms_below, length-closed}
use Rattle.rings.proofs.lent.room_of.Goals as goal

pub room_for-room-requires : goal.room_for-room-requires
room_for-room-requires c =
    omega (arith, c.closed_count.ensures, total-step _ _ _ c.in-Some.ensures.steps length, c.loop-ring.invariant.4)

pub overflow_add-all : goal.overflow_add-all
overflow_add-all c = let r = c.args.rings in omega (
  arith,
  c.loop-ring.invariant.3,
  c.room_for-room.ensures ∙ ap B c.closed_count.ensures,
  total-step _ _ _ c.in-Some.ensures.steps ring_room,
  rooms_below _ c.requires,
  length-closed r.lengths.now r.coords.now,
  r.lent.few,
)

pub loop-ring-preserved : goal.loop-ring-preserved
loop-ring-preserved c = let l = c.loop-ring in
    let room = c.room_for-room.ensures ∙ ap B c.closed_count.ensures in
    let steps = c.in-Some.ensures.steps in (
      tt,
      tt,
      omega (arith, l.invariant.2, room, largest_step _ _ _ steps ring_room),
      omega (arith, l.invariant.3, room, total-step _ _ _ steps ring_room),
      omega (arith, l.invariant.4, total-step _ _ _ steps length),
    )

pub returns : goal.returns
returns c = let l = c.loop-ring in
    let none = c.in-None.ensures.steps.0 in record {
      largest-room = omega (arith, l.invariant.2, largest_end _ none ring_room);
      whole_room = omega (arith, l.invariant.3, total_end _ none ring_room);
    }
