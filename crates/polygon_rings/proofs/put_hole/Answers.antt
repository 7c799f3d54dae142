-- `put_hole` meets its contract: the hole stands where it was cut, its origins in theirs, and it is counted. Assumes nothing.
use mathlib.Core.Path.{refl, ap}
use Prim.Native.Nat.{◌*◌}
use native.Mathlib.Omega.{arith}
use lib.ListN.{length, length-drop}
use Rattle.binary64.proofs.Fill.{tail_part, front-part}
use Rattle.tile.specs.Ring.{coords, close}
use Rattle.clip.specs.Polygon.{cut_hole}
use Rattle.clip.specs.Origins.{hole_origins}
use Rattle.clip.proofs.Cuts.{hole_fits-room}
use Rattle.polygon_rings.proofs.Holes.{cut_fits, cut_small, cut-origins_fit, cut_there}
use Rattle.polygon_rings.proofs.put_hole.Goals as goal

pub count_ring-requires : goal.count_ring-requires
count_ring-requires c = let a = c.args in
    let p = c.requires.hole_room in
    let ring = close (coords a.ring.now) in
    let m = c.clip_hole-m.result in
    let n = c.clip_hole-m.ensures.cut.count in
    let room = hole_fits-room a.bounds ring in
    let f = cut_fits _ _ _ p.room (cut_hole a.bounds ring) room m n in record {
      small = cut_small _ _ _ p.room (cut_hole a.bounds ring) room m n;
      coordinates = omega (
        arith,
        f,
        p.output-room,
        c,
      );
      lengths-room = p.lengths-room;
    }

pub returns-clause-ring : goal.returns-clause-ring
returns-clause-ring c = let a = c.args in
    let p = c.requires in
    let at = c.args.at.coordinates in
    let ring = close (coords a.ring.now) in
    let hole = c.clip_hole-m in
    let n = c.clip_hole-m.ensures.cut.count in
    let room = hole_fits-room a.bounds ring in
    let f = cut_fits _ _ _ p.hole_room.room (cut_hole a.bounds ring) room hole.result n in
    let o = cut-origins_fit _ _ _ p.hole_room.room (cut_hole a.bounds ring) room _ _ hole.result p.hole_origin_room.room n in
    let kept = c.clip_hole-m.auto.out in
    let t = ap length (tail_part a.out.now (2 * at)) in
    let u = ap length (tail_part a.out_origins.now at) in
    let counted = c.count_ring.ensures in cut_there (cut_hole a.bounds ring) hole.result _ a.out.now _ a.at _ _ _ p.hole_room.output-room
    (omega (arith, f, kept, t, length-drop (2 * at) a.out.now)) hole.ensures.cut refl counted

pub returns-clause-origins : goal.returns-clause-origins
returns-clause-origins c = let a = c.args in
    let p = c.requires in
    let at = c.args.at.coordinates in
    let ring = close (coords a.ring.now) in
    let hole = c.clip_hole-m in
    let n = c.clip_hole-m.ensures.cut.count in
    let room = hole_fits-room a.bounds ring in
    let f = cut_fits _ _ _ p.hole_room.room (cut_hole a.bounds ring) room hole.result n in
    let o = cut-origins_fit _ _ _ p.hole_room.room (cut_hole a.bounds ring) room _ _ hole.result p.hole_origin_room.room n in
    let kept = c.clip_hole-m.auto.out in
    let t = ap length (tail_part a.out.now (2 * at)) in
    let u = ap length (tail_part a.out_origins.now at) in
    let counted = c.count_ring.ensures in rw counted.coordinates-after (front-part a.out_origins.now _ (hole_origins a.bounds ring) _ at hole.result
    p.hole_origin_room.output-room (omega (arith, o, c.clip_hole-m.auto.out_origins, u, length-drop at a.out_origins.now)) hole.ensures.origins refl)
