-- `route_part` meets its contract: the exterior is read and routed, and its route answered. Assumes nothing.
use mathlib.Core.Path.{refl, sym}
use Prim.Native.Nat.{◌*◌}
use native.Mathlib.Omega.{arith}
use lib.Seq.{length-take-le}
use Rattle.frame_parts.proofs.Cutting.{same-lengths}
use Rattle.frame_parts.proofs.CutParts.{exterior-whole, exterior-lent, exterior-room, exterior-origin-room, exterior-read}
use Rattle.frame_parts.proofs.route_part.Goals as goal

pub ring_at-from-requires : goal.ring_at-from-requires
ring_at-from-requires c = exterior-whole c.args.part _ _ _ c.requires.part_room

pub decode_ring-requires : goal.decode_ring-requires
decode_ring-requires c = let n = c.ring_at-from.ensures.2 in
    omega (arith, n, exterior-lent c.args.part _ _ _ c.requires.part_room c.args.ring.now refl)

pub slice_bounds-route_exterior-end : goal.slice_bounds-route_exterior-end
slice_bounds-route_exterior-end c = let h = exterior-lent c.args.part _ _ _ c.requires.part_room c.args.ring.now refl in
    omega (arith, h, c.ring_at-from.ensures.2, c.decode_ring.auto.ring)

pub slice_bounds-route_exterior-end-2 : goal.slice_bounds-route_exterior-end-2
slice_bounds-route_exterior-end-2 c = let h = exterior-lent c.args.part _ _ _ c.requires.part_room c.args.ring.now refl in
    sym (length-take-le (2 * c.ring_at-from.result.n) c.decode_ring.new.ring (omega (arith, h, c.ring_at-from.ensures.2, c.decode_ring.auto.ring)))

pub route_exterior-route-requires-clause-exterior_room : goal.route_exterior-route-requires-clause-exterior_room
route_exterior-route-requires-clause-exterior_room c = let from = c.ring_at-from.ensures in rw (c.decode_ring.ensures.1, from.0, from.1, from.2) (exterior-room c.args.part _ _ _ c.requires.part_room c.args.ring.now refl _ c.requires.positions_room)

pub route_exterior-route-requires-clause-ring_origin_room : goal.route_exterior-route-requires-clause-ring_origin_room
route_exterior-route-requires-clause-ring_origin_room c = let from = c.ring_at-from.ensures in rw (c.decode_ring.ensures.1, from.0, from.1, from.2) (exterior-origin-room c.args.part _ _ _ c.requires.part_room c.args.ring.now refl)

pub answer_route-requires-clause-cut_stands : goal.answer_route-requires-clause-cut_stands
answer_route-requires-clause-cut_stands c = let from = c.ring_at-from.ensures in
    let route = c.route_exterior-route in
    let e = exterior-read c.args.part _ _ _ c.requires.part_room c.args.ring.now refl _ _
    from.2 (rw (from.0, from.1) at c.decode_ring.ensures.1) in
    let kept = c.route_exterior-route.auto.scratch in
    let lent = same-lengths c.decode_ring.auto.ring
    kept c.route_exterior-route.auto.origin_scratch c.route_exterior-route.auto.out c.route_exterior-route.auto.out_origins in (rw e route.ensures.cut, rw e route.ensures.origins)

pub returns-clause-value : goal.returns-clause-value
returns-clause-value c = let from = c.ring_at-from.ensures in
    let e = exterior-read c.args.part _ _ _ c.requires.part_room c.args.ring.now refl _ _
    from.2 (rw (from.0, from.1) at c.decode_ring.ensures.1) in
    let route = c.route_exterior-route.ensures.route in
    let answer = c.answer_route.ensures in rw (e, ← route) answer.value

pub returns-clause-out_after : goal.returns-clause-out_after
returns-clause-out_after c = let from = c.ring_at-from.ensures in
    let e = exterior-read c.args.part _ _ _ c.requires.part_room c.args.ring.now refl _ _
    from.2 (rw (from.0, from.1) at c.decode_ring.ensures.1) in
    let route = c.route_exterior-route.ensures.route in
    let answer = c.answer_route.ensures in rw (e, ← route) answer.out_after
