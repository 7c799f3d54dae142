-- `clip_polygon` meets its contract: each arm knows the rectangle, and one of four numbers has closed rings. Assumes nothing.
use mathlib.Core.Path.{refl, sym, ◌∙◌}
use Prim.Native.Nat.{◌*◌}
use lib.ListN.{get_or}
use lib.Seq.{length-take-le}
use Rattle.clip.specs.Polygon.{route, route_rect}
use Rattle.polygon_rings.specs.WrittenRings.{numbers_of, lengths_of, origins_of}
use Rattle.polygon_rings.proofs.Routes.{boxed}
use Rattle.polygon_rings.proofs.Holes.{exterior-here, some-lengths, first-lent, first_room, first_positions, same-room}
use Rattle.polygon_rings.proofs.clip_polygon.Goals as goal

pub bounds-rings-0 : goal.bounds-rings-0
bounds-rings-0 c = some-lengths c.args.rings.lengths.now c.args.rings.coords.now c.requires.polygon_room.some

pub slice_bounds-route_exterior-end : goal.slice_bounds-route_exterior-end
slice_bounds-route_exterior-end c = let s = c.args.rings.coords.now in
    let ns = c.args.rings.lengths.now in
    sym (length-take-le (2 * get_or ns 0 0) s (first-lent ns s c.requires.polygon_room.some c.args.rings.lent))

pub route_exterior-route-requires-clause-exterior_room : goal.route_exterior-route-requires-clause-exterior_room
route_exterior-route-requires-clause-exterior_room c = let s = c.args.rings.coords.now in
    let ns = c.args.rings.lengths.now in
    let p = c.requires in
    let r = boxed ns s _ _ _ _ _ _ _ _ _ _ p.polygon_room p.lent_origins_room (sym c.polygon_rect_all_rings-rect.ensures ∙ c.in-Box.is) in
    let first = first_room ns s p.polygon_room.some _ _ _ _ _ r in record { room = first.0; positions = first_positions ns s p.polygon_room.some _ p.polygon_room.positions }

pub route_exterior-route-requires-clause-ring_origin_room : goal.route_exterior-route-requires-clause-ring_origin_room
route_exterior-route-requires-clause-ring_origin_room c = let s = c.args.rings.coords.now in
    let ns = c.args.rings.lengths.now in
    let p = c.requires in
    let r = boxed ns s _ _ _ _ _ _ _ _ _ _ p.polygon_room p.lent_origins_room (sym c.polygon_rect_all_rings-rect.ensures ∙ c.in-Box.is) in
    let first = first_room ns s p.polygon_room.some _ _ _ _ _ r in first.1

pub answer_route-requires-clause-lent_route_room : goal.answer_route-requires-clause-lent_route_room
answer_route-requires-clause-lent_route_room c = let s = c.args.rings.coords.now in
    let ns = c.args.rings.lengths.now in
    let p = c.requires in
    let r = boxed ns s _ _ _ _ _ _ _ _ _ _ p.polygon_room p.lent_origins_room (sym c.polygon_rect_all_rings-rect.ensures ∙ c.in-Box.is) in
    let route = c.route_exterior-route in
    let kept = c.route_exterior-route.auto.scratch in
    let rooms = same-room kept c.route_exterior-route.auto.origin_scratch c.route_exterior-route.auto.out refl c.route_exterior-route.auto.out_origins r in
    let e = exterior-here ns s p.polygon_room.some in record { rings = rooms.0; some = p.polygon_room.some; stands = rw e route.ensures.cut }

pub answer_route-requires-clause-lent_route_origin_room : goal.answer_route-requires-clause-lent_route_origin_room
answer_route-requires-clause-lent_route_origin_room c = let s = c.args.rings.coords.now in
    let ns = c.args.rings.lengths.now in
    let p = c.requires in
    let r = boxed ns s _ _ _ _ _ _ _ _ _ _ p.polygon_room p.lent_origins_room (sym c.polygon_rect_all_rings-rect.ensures ∙ c.in-Box.is) in
    let route = c.route_exterior-route in
    let kept = c.route_exterior-route.auto.scratch in
    let rooms = same-room kept c.route_exterior-route.auto.origin_scratch c.route_exterior-route.auto.out refl c.route_exterior-route.auto.out_origins r in
    let e = exterior-here ns s p.polygon_room.some in record { rings = rooms.1; stands = rw e route.ensures.origins }

pub returns-in-Nothing-clause-written : goal.returns-in-Nothing-clause-written
unfolding route route_rect numbers_of lengths_of origins_of
returns-in-Nothing-clause-written c = rw (← c.polygon_rect_all_rings-rect.ensures, c.in-Nothing.is) (record { count = refl; output = refl; lengths = refl })

pub returns-in-Nothing-clause-origins : goal.returns-in-Nothing-clause-origins
unfolding route route_rect numbers_of lengths_of origins_of
returns-in-Nothing-clause-origins c = rw (← c.polygon_rect_all_rings-rect.ensures, c.in-Nothing.is) (record { count = refl; output = refl })

pub returns-in-NotFinite-clause-written : goal.returns-in-NotFinite-clause-written
unfolding route route_rect numbers_of lengths_of origins_of
returns-in-NotFinite-clause-written c = rw (← c.polygon_rect_all_rings-rect.ensures, c.in-NotFinite.is) (record { count = refl; output = refl; lengths = refl })

pub returns-in-NotFinite-clause-origins : goal.returns-in-NotFinite-clause-origins
unfolding route route_rect numbers_of lengths_of origins_of
returns-in-NotFinite-clause-origins c = rw (← c.polygon_rect_all_rings-rect.ensures, c.in-NotFinite.is) (record { count = refl; output = refl })

pub returns-in-Box-clause-answer : goal.returns-in-Box-clause-answer
unfolding route route_rect
returns-in-Box-clause-answer c = let e = exterior-here c.args.rings.lengths.now c.args.rings.coords.now c.requires.polygon_room.some in rw (
  ← c.polygon_rect_all_rings-rect.ensures,
  c.in-Box.is,
  e,
  ← c.route_exterior-route.ensures.route,
) c.answer_route.ensures.answer

pub returns-in-Box-clause-written : goal.returns-in-Box-clause-written
unfolding route route_rect
returns-in-Box-clause-written c = let e = exterior-here c.args.rings.lengths.now c.args.rings.coords.now c.requires.polygon_room.some in rw (
  ← c.polygon_rect_all_rings-rect.ensures,
  c.in-Box.is,
  e,
  ← c.route_exterior-route.ensures.route,
) c.answer_route.ensures.written

pub returns-in-Box-clause-origins : goal.returns-in-Box-clause-origins
unfolding route route_rect
returns-in-Box-clause-origins c = let e = exterior-here c.args.rings.lengths.now c.args.rings.coords.now c.requires.polygon_room.some in rw (
  ← c.polygon_rect_all_rings-rect.ensures,
  c.in-Box.is,
  e,
  ← c.route_exterior-route.ensures.route,
) c.answer_route.ensures.origins
