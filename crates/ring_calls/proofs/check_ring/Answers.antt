-- `check_ring` meets its contract: each return rewrites the definition by the tests that led there. Assumes nothing.
use Prim.Native.Nat.{◌/◌}
use native.Mathlib.Omega.{arith}
use borrow.Author.Tests.{lt-ltb, le-ltb, eq-eqb, ne_eqb}
use Rattle.sutherland_hodgman.proofs.Offered.{B-le}
use Rattle.ring_calls.specs.RingCall.{ring_call_room, ring_call_origin_room, check_ring}
use Rattle.ring_calls.proofs.check_ring.Goals as goal

pub returns-then-numbers-eq1 : goal.returns-then-numbers-eq1
unfolding check_ring
returns-then-numbers-eq1 c = rw (eq-eqb _ _ c.if-numbers-eq1.true)

pub returns-then-n-gt-MOST_COORDINATES : goal.returns-then-n-gt-MOST_COORDINATES
unfolding check_ring
returns-then-n-gt-MOST_COORDINATES c = rw (ne_eqb _ _ c.if-numbers-eq1.false, lt-ltb _ _ c.if-n-gt-MOST_COORDINATES.true)

pub overflow_mul-room : goal.overflow_mul-room
overflow_mul-room c = omega (arith, B-le (c.args.numbers / 2) c.if-n-gt-MOST_COORDINATES.false)

pub returns-then-scratch-room : goal.returns-then-scratch-room
unfolding check_ring ring_call_room ring_call_origin_room
returns-then-scratch-room c = rw (
  ne_eqb _ _ c.if-numbers-eq1.false,
  le-ltb _ _ c.if-n-gt-MOST_COORDINATES.false,
  ← c.room_for-room.ensures,
  lt-ltb _ _ c.if-scratch-room.true,
)

pub returns-then-origin_scratch-room : goal.returns-then-origin_scratch-room
unfolding check_ring ring_call_room ring_call_origin_room
returns-then-origin_scratch-room c = rw (
  ne_eqb _ _ c.if-numbers-eq1.false,
  le-ltb _ _ c.if-n-gt-MOST_COORDINATES.false,
  ← c.room_for-room.ensures,
  le-ltb _ _ c.if-scratch-room.false,
  lt-ltb _ _ c.if-origin_scratch-room.true,
)

pub returns-then-out-room : goal.returns-then-out-room
unfolding check_ring ring_call_room ring_call_origin_room
returns-then-out-room c = rw (
  ne_eqb _ _ c.if-numbers-eq1.false,
  le-ltb _ _ c.if-n-gt-MOST_COORDINATES.false,
  ← c.room_for-room.ensures,
  le-ltb _ _ c.if-scratch-room.false,
  le-ltb _ _ c.if-origin_scratch-room.false,
  lt-ltb _ _ c.if-out-room.true,
)

pub returns-then-out_origins-room : goal.returns-then-out_origins-room
unfolding check_ring ring_call_room ring_call_origin_room
returns-then-out_origins-room c = rw (
  ne_eqb _ _ c.if-numbers-eq1.false,
  le-ltb _ _ c.if-n-gt-MOST_COORDINATES.false,
  ← c.room_for-room.ensures,
  le-ltb _ _ c.if-scratch-room.false,
  le-ltb _ _ c.if-origin_scratch-room.false,
  le-ltb _ _ c.if-out-room.false,
  lt-ltb _ _ c.if-out_origins-room.true,
)

pub returns : goal.returns
unfolding check_ring ring_call_room ring_call_origin_room
returns c = rw (
  ne_eqb _ _ c.if-numbers-eq1.false,
  le-ltb _ _ c.if-n-gt-MOST_COORDINATES.false,
  ← c.room_for-room.ensures,
  le-ltb _ _ c.if-scratch-room.false,
  le-ltb _ _ c.if-origin_scratch-room.false,
  le-ltb _ _ c.if-out-room.false,
  le-ltb _ _ c.if-out_origins-room.false,
)
