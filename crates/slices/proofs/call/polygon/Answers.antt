-- `polygon` meets its contract: refused by the checks, or answered in the parts of the outputs that 22 asks for, and the scratch and order
-- slices are cleared. Assumes nothing.
use mathlib.Core.Path.{sym, ◌∙◌}
use Prim.Native.Nat.{◌*◌}
use native.Mathlib.Omega.{arith}
use lib.Ieee.{of_bits}
use lib.Seq.{length-take-le}
use Rattle.std.proofs.lemmas.Result.{err_from_is_err_and}
use Rattle.binary64.specs.Slices.{plus_zero}
use Rattle.rings.specs.LentRings.{closed_rings}
use Rattle.clip.specs.Polygon.{route}
use Rattle.clip.specs.Origins.{routed_origins}
use Rattle.polygon_rings.specs.WrittenRings.{written_rings, numbers_of, origins_of}
use Rattle.slices.specs.SliceCall.{route_lent, origins_lent}
use Rattle.slices.specs.SliceCall.{slice_call_answer, slice_call_slices}
use Rattle.slices.proofs.Checks.{passed_rings, checked, no-fit, part_room, part-origin-room, padded-front}
use Rattle.slices.proofs.Answers.{answered, written, cleared}
use Rattle.slices.proofs.call.polygon.Goals as goal

pub overflow_mul-room : goal.overflow_mul-room
overflow_mul-room c = let p = (passed_rings _ _ _ _ _ _ _ _ _ _ c.in_ok-rings.ensures.fit c.in_ok-rings.ensures.rings _ c.check_rings.ensures _ c.in_ok-origin_room.was) in omega (arith, p.small)

pub slice_bounds-clip_padded-end : goal.slice_bounds-clip_padded-end
slice_bounds-clip_padded-end c = (passed_rings _ _ _ _ _ _ _ _ _ _ c.in_ok-rings.ensures.fit c.in_ok-rings.ensures.rings _ c.check_rings.ensures _ c.in_ok-origin_room.was).within

pub slice_bounds-clip_padded-end-2 : goal.slice_bounds-clip_padded-end-2
slice_bounds-clip_padded-end-2 c = sym (length-take-le _ _ (passed_rings _ _ _ _ _ _ _ _ _ _ c.in_ok-rings.ensures.fit c.in_ok-rings.ensures.rings _ c.check_rings.ensures _ c.in_ok-origin_room.was).within)

pub slice_bounds-clip_padded-end-3 : goal.slice_bounds-clip_padded-end-3
slice_bounds-clip_padded-end-3 c = (passed_rings _ _ _ _ _ _ _ _ _ _ c.in_ok-rings.ensures.fit c.in_ok-rings.ensures.rings _ c.check_rings.ensures _ c.in_ok-origin_room.was).origins-within

pub slice_bounds-clip_padded-end-4 : goal.slice_bounds-clip_padded-end-4
slice_bounds-clip_padded-end-4 c = sym (length-take-le _ _ (passed_rings _ _ _ _ _ _ _ _ _ _ c.in_ok-rings.ensures.fit c.in_ok-rings.ensures.rings _ c.check_rings.ensures _ c.in_ok-origin_room.was).origins-within)

pub clip_padded-answer-requires-clause-polygon_room : goal.clip_padded-answer-requires-clause-polygon_room
clip_padded-answer-requires-clause-polygon_room c = let a = c.args in
    let p = passed_rings _ _ _ _ _ _ _ _ _ _ c.in_ok-rings.ensures.fit c.in_ok-rings.ensures.rings _ c.check_rings.ensures _ c.in_ok-origin_room.was in
    let l = length-take-le _ a.out.now p.within in
    let same = c.in_ok-rings.ensures.rings in
    rw (same.0, same.1) (part_room _ _ _ _ _ _ (omega (arith, l, p.asked)) p.polygon-room)

pub clip_padded-answer-requires-clause-lent_origins_room : goal.clip_padded-answer-requires-clause-lent_origins_room
clip_padded-answer-requires-clause-lent_origins_room c = let a = c.args in
    let p = passed_rings _ _ _ _ _ _ _ _ _ _ c.in_ok-rings.ensures.fit c.in_ok-rings.ensures.rings _ c.check_rings.ensures _ c.in_ok-origin_room.was in
    let o = length-take-le _ a.out_origins.now p.origins-within in
    let same = c.in_ok-rings.ensures.rings in
    rw (same.0, same.1) (part-origin-room _ _ _ _ (omega (arith, o, p.asked)) p.origin-room)

pub returns-in_err-rings-clause-answer : goal.returns-in_err-rings-clause-answer
unfolding slice_call_answer
returns-in_err-rings-clause-answer c = let p = err_from_is_err_and c.from_residual.result c.from_residual.ensures.1 in
    rw (p.1, p.2, c.in_err-rings.ensures.rings, no-fit _ _ _ _ _ _ _ _ (sym c.in_err-rings.ensures.fit))

pub returns-in_err-rings-clause-lent : goal.returns-in_err-rings-clause-lent
unfolding slice_call_slices
returns-in_err-rings-clause-lent c = rw (no-fit _ _ _ _ _ _ _ _ (sym c.in_err-rings.ensures.fit))

pub returns-in_err-origin_room-clause-answer : goal.returns-in_err-origin_room-clause-answer
unfolding slice_call_answer
returns-in_err-origin_room-clause-answer c = let r = c.from_residual-in_err-origin_room in
    let p = err_from_is_err_and r.result r.ensures.1 in
    rw (p.1, p.2, checked _ _ _ _ _ _ _ _ _ _ c.in_ok-rings.ensures.fit c.in_ok-rings.ensures.rings _ c.check_rings.ensures, c.in_err-origin_room.was)

pub returns-in_err-origin_room-clause-lent : goal.returns-in_err-origin_room-clause-lent
unfolding slice_call_slices
returns-in_err-origin_room-clause-lent c = rw (checked _ _ _ _ _ _ _ _ _ _ c.in_ok-rings.ensures.fit c.in_ok-rings.ensures.rings _ c.check_rings.ensures, c.in_err-origin_room.was)

pub returns-clause-answer : goal.returns-clause-answer
unfolding slice_call_answer route_lent
returns-clause-answer c = let same = c.in_ok-rings.ensures.rings in
    answered _ _ _ (checked _ _ _ _ _ _ _ _ _ _ c.in_ok-rings.ensures.fit c.in_ok-rings.ensures.rings _ c.check_rings.ensures ∙ c.in_ok-origin_room.was) _ _
    ((rw (same.0, same.1) at c.clip_padded-answer.ensures.answer) ∙ rw c.buffered.ensures) c.guard_count-guards.ensures

pub returns-clause-lent : goal.returns-clause-lent
unfolding slice_call_slices route_lent origins_lent of_bits
returns-clause-lent c = let a = c.args in
    let room = c.in_ok-origin_room.origin_room in
    let p = passed_rings _ _ _ _ _ _ _ _ _ _ c.in_ok-rings.ensures.fit c.in_ok-rings.ensures.rings _ c.check_rings.ensures _ c.in_ok-origin_room.was in
    let clipped = c.clip_padded-answer in
    let same = c.in_ok-rings.ensures.rings in
    let filled = rw (same.0, same.1) at clipped.ensures.written in
    let origins = rw (same.0, same.1) at clipped.ensures.origins in
    let b = c.buffered.ensures in
    let bounds = c.buffered.result in
    let rings = closed_rings a.lengths.now a.coords.now in
    let to = route a.flags bounds rings in
    rw (← b)
    (written _ to room p.passes rings (routed_origins to bounds rings) _ p.asked _ _ _ _ _ _
    (cleared plus_zero _ _ _ (c.fill.ensures.after (λ y h. h)) clipped.auto.scratch)
    (cleared 0 _ _ _ (c.fill-2.ensures.after (λ y h. h)) clipped.auto.origin_scratch)
    (cleared 0 _ _ _ c.clear_order.ensures clipped.auto.order)
    (padded-front plus_zero (numbers_of (written_rings to)) _ a.out.now (2 * room) p.within filled.output)
    filled.lengths
    (padded-front 0 (origins_of (routed_origins to bounds rings)) _ a.out_origins.now room p.origins-within origins))
