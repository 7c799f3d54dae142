-- `put_holes` meets its contract. The invariant: the holes that are left have room, and what is written with what is left to write is all
-- that was to be written, of the rings and of their origins. Assumes nothing.
use mathlib.Core.Path.{◌≡◌, refl, ◌∙◌}
use mathlib.Core.List.{◌++◌}
use lib.ListN.{take}
use Rattle.tile.specs.Ring.{coords, close}
use Rattle.rings.specs.Internal.{rings_of}
use Rattle.clip.specs.Polygon.{cut_hole, cut_holes}
use Rattle.clip.specs.Origins.{hole_origins, holes_origins}
use Rattle.clip.proofs.Cuts.{hole_fits-room}
use Rattle.polygon_rings.specs.Internal.{Put}
use Rattle.polygon_rings.proofs.Holes.{ahead_then, ahead_ring, ahead_origins, ahead_end, origins_end, hole_room, next_room, same-room}
use Rattle.polygon_rings.proofs.put_holes.Goals as goal

pub put_hole-placed-requires-clause-hole_room : goal.put_hole-placed-requires-clause-hole_room
put_hole-placed-requires-clause-hole_room c = let ring = c.in-Some.ring.now in
    let rooms = rw c.in-Some.ensures.steps at c.loop-ring.invariant.2 in
    (hole_room _ _ _ _ _ _ _ _ rooms (coords ring) refl).0

pub put_hole-placed-requires-clause-hole_origin_room : goal.put_hole-placed-requires-clause-hole_origin_room
put_hole-placed-requires-clause-hole_origin_room c = let ring = c.in-Some.ring.now in
    let rooms = rw c.in-Some.ensures.steps at c.loop-ring.invariant.2 in
    (hole_room _ _ _ _ _ _ _ _ rooms (coords ring) refl).1

pub loop-ring-preserved : goal.loop-ring-preserved
unfolding cut_holes holes_origins
loop-ring-preserved c = let bounds = c.args.bounds in
    let l = c.loop-ring in
    let steps = c.in-Some.ensures.steps in
    let kept = c.put_hole-placed.auto in
    let ring = close (coords c.in-Some.ring.now) in
    let rest = rings_of c.next.new.self in
    let put : Put (cut_hole bounds ring) l.placed l.out l.out_lengths c.put_hole-placed.result _ _ = c.put_hole-placed.ensures.ring in
    let after = c.put_hole-placed.new.out_origins in
    let os : take c.put_hole-placed.result.coordinates after ≡
    take l.placed.coordinates l.out_origins ++ hole_origins bounds ring = c.put_hole-placed.ensures.origins in
    let rooms = rw steps at l.invariant.2 in
    let n = next_room _ _ _ _ _ _ _ _ rooms (cut_hole bounds ring)
    (hole_fits-room bounds ring) _ put.counted.coordinates-after put.counted.rings-after in
    let f = ahead_ring (cut_hole bounds ring) (cut_holes bounds rest) _ _ _ _ _ _ put in (
      tt,
      tt,
      same-room kept.scratch kept.origin_scratch kept.out kept.out_lengths kept.out_origins n,
      ahead_then (rw steps at l.invariant.3) f,
      rw steps at l.invariant.4 ∙ ahead_origins (hole_origins bounds ring) (holes_origins bounds rest)
          l.placed.coordinates c.put_hole-placed.result.coordinates l.out_origins after os,
      kept.scratch ∙ l.invariant.5,
      kept.origin_scratch ∙ l.invariant.6,
      kept.out ∙ l.invariant.7,
      kept.out_lengths ∙ l.invariant.8,
      kept.out_origins ∙ l.invariant.9,
    )

pub returns-clause-rings : goal.returns-clause-rings
returns-clause-rings c = ahead_end c.args.bounds _ c.in-None.ensures.steps.0 _ _ _ _ _ _ _ c.loop-ring.invariant.3

pub returns-clause-origins : goal.returns-clause-origins
returns-clause-origins c = let l = c.loop-ring in
    origins_end c.args.bounds _ c.in-None.ensures.steps.0 _ l.placed.coordinates l.out_origins l.invariant.4
