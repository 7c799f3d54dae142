-- `ring` meets its contract: refused by the checks, or cut in the parts of the outputs that 22 asks for, and the scratch slices cleared.
-- Assumes nothing.
use mathlib.Core.Path.{sym}
use Prim.Native.Nat.{◌*◌, ◌/◌}
use native.Mathlib.Omega.{arith}
use lib.Ieee.{of_bits}
use lib.ListN.{length}
use lib.Seq.{length-take-le}
use Rattle.std.proofs.lemmas.Result.{err_from_is_err_and}
use Rattle.binary64.specs.Slices.{plus_zero}
use Rattle.sutherland_hodgman.proofs.Offered.{B-le}
use Rattle.ring_calls.specs.RingCall.{ring_call_answer}
use Rattle.ring_calls.proofs.Calls.{passes_cuttable, refused-slices, clipped-answer, clipped_slices, clipped-promise, cleared}
use Rattle.ring_calls.proofs.ring.Goals as goal

pub returns-in_err-check_ring-clause-answer : goal.returns-in_err-check_ring-clause-answer
unfolding ring_call_answer
returns-in_err-check_ring-clause-answer c =
    let p = err_from_is_err_and c.from_residual.result c.from_residual.ensures.1 in
    rw (p.1, p.2, ← c.in_err-check_ring.ensures)

pub returns-in_err-check_ring-clause-lent : goal.returns-in_err-check_ring-clause-lent
returns-in_err-check_ring-clause-lent c = refused-slices _ _ _ _ (sym c.in_err-check_ring.ensures)

pub room_for-origin_room-requires : goal.room_for-origin_room-requires
room_for-origin_room-requires c = (passes_cuttable _ _ _ _ _ (sym c.in_ok-check_ring.ensures)).few

pub overflow_mul-room : goal.overflow_mul-room
overflow_mul-room c =
    let p = passes_cuttable _ _ _ _ _ (sym c.in_ok-check_ring.ensures) in
    omega (arith, c.room_for-origin_room.ensures, B-le (length c.args.ring.now / 2) p.few)

pub slice_bounds-clip_padded-end : goal.slice_bounds-clip_padded-end
slice_bounds-clip_padded-end c =
    let p = passes_cuttable _ _ _ _ _ (sym c.in_ok-check_ring.ensures) in
    omega (arith, c.room_for-origin_room.ensures, p.output-room)

pub slice_bounds-clip_padded-end-2 : goal.slice_bounds-clip_padded-end-2
slice_bounds-clip_padded-end-2 c =
    let p = passes_cuttable _ _ _ _ _ (sym c.in_ok-check_ring.ensures) in
    sym (length-take-le _ _ (omega (arith, c.room_for-origin_room.ensures, p.output-room)))

pub slice_bounds-clip_padded-end-3 : goal.slice_bounds-clip_padded-end-3
slice_bounds-clip_padded-end-3 c =
    let p = passes_cuttable _ _ _ _ _ (sym c.in_ok-check_ring.ensures) in
    omega (arith, c.room_for-origin_room.ensures, p.origin-output-room)

pub slice_bounds-clip_padded-end-4 : goal.slice_bounds-clip_padded-end-4
slice_bounds-clip_padded-end-4 c =
    let p = passes_cuttable _ _ _ _ _ (sym c.in_ok-check_ring.ensures) in
    sym (length-take-le _ _ (omega (arith, c.room_for-origin_room.ensures, p.origin-output-room)))

pub clip_padded-len-requires-clause-cutter_room : goal.clip_padded-len-requires-clause-cutter_room
clip_padded-len-requires-clause-cutter_room c =
    let p = passes_cuttable _ _ _ _ _ (sym c.in_ok-check_ring.ensures) in
    let room = c.room_for-origin_room in
    let l = length-take-le (2 * room.result) c.args.out.now (omega (arith, room.ensures, p.output-room)) in
    record { vertices = omega (arith, p.even); scratch-room = p.scratch-room; output-room = omega (arith, l, room.ensures) }

pub clip_padded-len-requires-clause-origin_room : goal.clip_padded-len-requires-clause-origin_room
clip_padded-len-requires-clause-origin_room c =
    let p = passes_cuttable _ _ _ _ _ (sym c.in_ok-check_ring.ensures) in
    let room = c.room_for-origin_room in
    let l = length-take-le room.result c.args.out_origins.now (omega (arith, room.ensures, p.origin-output-room)) in
    record { positions = p.few; scratch-room = p.origin-scratch-room; output-room = omega (arith, l, room.ensures) }

pub returns-clause-answer : goal.returns-clause-answer
returns-clause-answer c =
    let cut = c.clip_padded-len.ensures in
    clipped-answer _ _ _ (sym c.in_ok-check_ring.ensures) _ c.room_for-origin_room.ensures _ _ _ cut.ring cut.origins

pub returns-clause-lent : goal.returns-clause-lent
unfolding of_bits
returns-clause-lent c =
    let cut = c.clip_padded-len in
    clipped_slices _ _ _ (sym c.in_ok-check_ring.ensures) _ c.room_for-origin_room.ensures _ _ _ cut.ensures.ring cut.ensures.origins _ _
    (cleared plus_zero _ _ _ (c.fill.ensures.after (λ y e. e)) cut.auto.scratch)
    (cleared 0 _ _ _ (c.fill-2.ensures.after (λ y e. e)) cut.auto.origin_scratch)

pub returns-clause-promise : goal.returns-clause-promise
returns-clause-promise c =
    let cut = c.clip_padded-len.ensures in
    clipped-promise _ _ _ (sym c.in_ok-check_ring.ensures) _ c.room_for-origin_room.ensures _ _ _ cut.ring cut.origins
