-- `route_cut` meets its contract: nothing is left, or what is left is judged. Assumes nothing.
use mathlib.Core.Path.{sym}
use native.Mathlib.Nat.{pos_of_ne-zero}
use native.Mathlib.Omega.{arith}
use Prim.Native.Nat.{◌*◌, ◌≤◌}
use lib.ListN.{length}
use lib.Seq.{length-take-le}
use Rattle.tile.specs.Ring.{coords, close}
use Rattle.tile.proofs.Rings.{length_front, written_stands, written-front}
use Rattle.sutherland_hodgman.proofs.Offered.{B-le}
use Rattle.clip.specs.Polygon.{route_cut}
use Rattle.clip.proofs.Cuts.{cutter_room, origin-room, cut-count, cut_fits, closed-written, closed-fits, closed-lent, closed-origins, closed_some}
use Rattle.clip.proofs.Cuts.{judged_route, judged_stands, judged_origins}
use Rattle.clip.proofs.polygon.route_cut.Goals as goal

pub clip_ring-clipped-requires-clause-cutter_room : goal.clip_ring-clipped-requires-clause-cutter_room
clip_ring-clipped-requires-clause-cutter_room c = let s = c.args.ring.now in cutter_room s _ _ c.requires.exterior_room.room

pub clip_ring-clipped-requires-clause-origin_room : goal.clip_ring-clipped-requires-clause-origin_room
clip_ring-clipped-requires-clause-origin_room c = let s = c.args.ring.now in origin-room s _ _ c.requires.exterior_room.room _ _ c.requires.ring_origin_room

pub returns-then-clipped-eq0-clause-route : goal.returns-then-clipped-eq0-clause-route
unfolding route_cut
returns-then-clipped-eq0-clause-route c = let e = cut-count c.args.ring.now _ _ c.requires.exterior_room.room c.args.bounds _ _
    c.clip_ring-clipped.ensures.ring in rw (← e, c.if-clipped-eq0.true)

pub close_with_origins-m-requires : goal.close_with_origins-m-requires
close_with_origins-m-requires c = let k = c.clip_ring-clipped.auto in
    let f = cut_fits c.args.ring.now _ _ c.requires.exterior_room.room c.args.bounds _ _
    c.clip_ring-clipped.ensures.ring (omega
    (arith, c.if-clipped-eq0.false)) in (omega (arith, k, f, c.requires.exterior_room.room.output-room), omega (arith, k, f, c.requires.ring_origin_room.output-room))

pub find_issue-issue-requires : goal.find_issue-issue-requires
find_issue-issue-requires c = let k = c.clip_ring-clipped.auto in
    let l = c.close_with_origins-m.auto in
    let f = closed-fits c.args.ring.now _ _ c.requires.exterior_room.room c.args.bounds _ _
    c.clip_ring-clipped.ensures.ring _ _ c.close_with_origins-m.ensures.ring (omega (arith, c.if-clipped-eq0.false)) in
    let t = length-take-le (2 * c.close_with_origins-m.result) c.close_with_origins-m.new.ring
    (omega (arith, k, l, f, c.requires.exterior_room.room.output-room)) in (
      omega (arith, t, k, f, c.requires.exterior_room.room.scratch-room),
      omega (arith, t, f, c.requires.exterior_room.positions),
      omega (arith, t, f, B-le _ c.requires.exterior_room.room.few),
    )

pub slice_bounds-find_issue-end : goal.slice_bounds-find_issue-end
slice_bounds-find_issue-end c = let k = c.clip_ring-clipped.auto in
    let l = c.close_with_origins-m.auto in
    let f = closed-fits c.args.ring.now _ _ c.requires.exterior_room.room c.args.bounds _ _
    c.clip_ring-clipped.ensures.ring _ _ c.close_with_origins-m.ensures.ring (omega (arith, c.if-clipped-eq0.false)) in
    omega (arith, k, l, f, c.requires.exterior_room.room.output-room)

pub slice_bounds-find_issue-end-2 : goal.slice_bounds-find_issue-end-2
slice_bounds-find_issue-end-2 c = let k = c.clip_ring-clipped.auto in
    let l = c.close_with_origins-m.auto in
    let f = closed-fits c.args.ring.now _ _ c.requires.exterior_room.room c.args.bounds _ _
    c.clip_ring-clipped.ensures.ring _ _ c.close_with_origins-m.ensures.ring (omega (arith, c.if-clipped-eq0.false)) in
    sym (length-take-le (2 * c.close_with_origins-m.result) c.close_with_origins-m.new.ring (omega (arith, k, l, f, c.requires.exterior_room.room.output-room)))

pub overflow_mul-m : goal.overflow_mul-m
overflow_mul-m c = let f = closed-fits c.args.ring.now _ _ c.requires.exterior_room.room c.args.bounds _ _ c.clip_ring-clipped.ensures.ring _ _
    c.close_with_origins-m.ensures.ring (omega (arith, c.if-clipped-eq0.false)) in
    omega (arith, f, B-le _ c.requires.exterior_room.room.few)

pub overflow_mul-m-2 : goal.overflow_mul-m-2
overflow_mul-m-2 c = let k = c.clip_ring-clipped.auto in
    let l = c.close_with_origins-m.auto in
    let f = closed-fits c.args.ring.now _ _ c.requires.exterior_room.room c.args.bounds _ _ c.clip_ring-clipped.ensures.ring _ _
    c.close_with_origins-m.ensures.ring (omega (arith, c.if-clipped-eq0.false)) in
    omega (arith, f, B-le _ c.requires.exterior_room.room.few)

pub slice_bounds-judge_cut-end : goal.slice_bounds-judge_cut-end
slice_bounds-judge_cut-end c = let f = closed-lent c.args.ring.now _ _ c.requires.exterior_room.room c.args.bounds _ _ c.clip_ring-clipped.ensures.ring _ _
    c.close_with_origins-m.ensures.ring (omega (arith, c.if-clipped-eq0.false)) in
    omega (arith, f, c.clip_ring-clipped.auto, c.close_with_origins-m.auto)

pub slice_bounds-judge_cut-end-2 : goal.slice_bounds-judge_cut-end-2
slice_bounds-judge_cut-end-2 c = let f = closed-lent c.args.ring.now _ _ c.requires.exterior_room.room c.args.bounds _ _ c.clip_ring-clipped.ensures.ring _ _
    c.close_with_origins-m.ensures.ring (omega (arith, c.if-clipped-eq0.false)) in
    sym (length-take-le (2 * c.close_with_origins-m.result) c.close_with_origins-m.new.ring
    (omega (arith, f, c.clip_ring-clipped.auto, c.close_with_origins-m.auto)))

pub returns-clause-route : goal.returns-clause-route
returns-clause-route c = let s = c.args.ring.now in
    let cut = c.clip_ring-clipped.ensures in
    let h = pos_of_ne-zero c.if-clipped-eq0.false in
    let ring = close (coords s) in
    let e = c.close_with_origins-m.ensures in
    let w = closed-written s _ _ c.requires.exterior_room.room c.args.bounds _ _ cut.ring _ _ e.ring in
    let f = closed-lent s _ _ c.requires.exterior_room.room c.args.bounds _ _ cut.ring _ _ e.ring h in
    let fits : 2 * c.close_with_origins-m.result ≤ length c.close_with_origins-m.new.ring =
    omega (arith, f, c.clip_ring-clipped.auto, c.close_with_origins-m.auto) in
    let is = rw (length_front _ _ fits) at c.judge_cut.ensures in judged_route c.args.flags c.args.bounds ring _ _ _ _ is
    (omega (arith, cut-count s _ _ c.requires.exterior_room.room c.args.bounds _ _ cut.ring, h)) (written-front w)
    c.find_issue-issue.ensures.value w.count

pub returns-clause-cut : goal.returns-clause-cut
returns-clause-cut c = let s = c.args.ring.now in
    let cut = c.clip_ring-clipped.ensures in
    let h = pos_of_ne-zero c.if-clipped-eq0.false in
    let ring = close (coords s) in
    let e = c.close_with_origins-m.ensures in
    let w = closed-written s _ _ c.requires.exterior_room.room c.args.bounds _ _ cut.ring _ _ e.ring in
    let f = closed-lent s _ _ c.requires.exterior_room.room c.args.bounds _ _ cut.ring _ _ e.ring h in
    let fits : 2 * c.close_with_origins-m.result ≤ length c.close_with_origins-m.new.ring =
    omega (arith, f, c.clip_ring-clipped.auto, c.close_with_origins-m.auto) in
    let is = rw (length_front _ _ fits) at c.judge_cut.ensures in judged_stands c.args.flags c.args.bounds ring _ _ _ _ is _ (written_stands w)
    (closed_some s _ _ c.requires.exterior_room.room c.args.bounds _ _ cut.ring _ _ e.ring h)

pub returns-clause-origins : goal.returns-clause-origins
returns-clause-origins c = let s = c.args.ring.now in
    let cut = c.clip_ring-clipped.ensures in
    let h = pos_of_ne-zero c.if-clipped-eq0.false in
    let ring = close (coords s) in
    let e = c.close_with_origins-m.ensures in
    let w = closed-written s _ _ c.requires.exterior_room.room c.args.bounds _ _ cut.ring _ _ e.ring in
    let f = closed-lent s _ _ c.requires.exterior_room.room c.args.bounds _ _ cut.ring _ _ e.ring h in
    let fits : 2 * c.close_with_origins-m.result ≤ length c.close_with_origins-m.new.ring =
    omega (arith, f, c.clip_ring-clipped.auto, c.close_with_origins-m.auto) in
    let is = rw (length_front _ _ fits) at c.judge_cut.ensures in judged_origins c.args.flags c.args.bounds ring _ _ _ _ is _
    (closed-origins s _ _ c.requires.exterior_room.room c.args.bounds _ _ cut.ring _ _ e.ring _ _ cut.origins e.origins)
