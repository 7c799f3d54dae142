-- `clip_ring` meets its contract: three passes, then the last and the closing. Assumes nothing.
use native.Mathlib.Omega.{arith}
use Prim.Native.Nat.{◌/◌}
use lib.ListN.{length}
use borrow.Author.Rules.{rules}
use Rattle.sutherland_hodgman.proofs.Offered.{last-room, last-origin-room, last-cut, last-origins, whole_ring}
use Rattle.sutherland_hodgman.proofs.clip_ring.Goals as goal

pub clip_top-requires-clause-numbers_room : goal.clip_top-requires-clause-numbers_room
clip_top-requires-clause-numbers_room c = let p = c.requires.cutter_room in
    let k = c.clip_three_edges-len.auto in
    let t = c.clip_three_edges-len.ensures.ring in last-room c.args.bounds c.args.ring.now (length c.args.ring.now / 2) _ _ t (record {
      vertices = p.vertices;
      scratch-room = omega (arith, p.scratch-room, k);
      output-room = omega (arith, p.output-room, k);
    })

pub clip_top-requires-clause-origins_room : goal.clip_top-requires-clause-origins_room
clip_top-requires-clause-origins_room c = let p = c.requires.cutter_room in
    let q = c.requires.origin_room in
    let k = c.clip_three_edges-len.auto in
    let t = c.clip_three_edges-len.ensures.ring in last-origin-room c.args.bounds c.args.ring.now (length c.args.ring.now / 2) _ _ t p.vertices (record {
      positions = q.positions;
      scratch-room = omega (arith, q.scratch-room, k);
      output-room = omega (arith, q.output-room, k);
    })

pub returns-clause-ring : goal.returns-clause-ring
returns-clause-ring c = let s = c.args.ring.now in
    let e = c.clip_three_edges-len.ensures in
    let t = c.clip_top.ensures in
    let doubles = c.shared_slice_known-1.given in
    let cut = last-cut c.args.bounds s (length s / 2) _ _ e.ring (search rules, search rules, search rules, search rules) doubles _ _ t.ring in
    rw (whole_ring s) at cut

pub returns-clause-origins : goal.returns-clause-origins
returns-clause-origins c = let s = c.args.ring.now in
    let e = c.clip_three_edges-len.ensures in
    let t = c.clip_top.ensures in
    let origins = last-origins c.args.bounds s (length s / 2) _ _ e.ring _ _ e.origins t.origins in
    rw (whole_ring s) at origins
