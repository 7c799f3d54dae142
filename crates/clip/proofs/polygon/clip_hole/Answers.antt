-- `clip_hole` meets its contract: cut, and left out or closed. Assumes nothing.
use native.Mathlib.Omega.{arith}
use mathlib.Core.Path.{refl}
use borrow.Author.Tests.{lt-ltb, le-ltb}
use Rattle.tile.specs.Ring.{flat}
use Rattle.tile.proofs.Rings.{written_stands}
use Rattle.clip.specs.Polygon.{cut_hole}
use Rattle.clip.specs.Origins.{hole_origins}
use Rattle.clip.proofs.Cuts.{cutter_room, origin-room, cut-count, cut_fits, closed-written, closed-origins}
use Rattle.clip.proofs.polygon.clip_hole.Goals as goal

pub clip_ring-clipped-requires-clause-cutter_room : goal.clip_ring-clipped-requires-clause-cutter_room
clip_ring-clipped-requires-clause-cutter_room c = let s = c.args.ring.now in cutter_room s _ _ c.requires.ring_room

pub clip_ring-clipped-requires-clause-origin_room : goal.clip_ring-clipped-requires-clause-origin_room
clip_ring-clipped-requires-clause-origin_room c = let s = c.args.ring.now in origin-room s _ _ c.requires.ring_room _ _ c.requires.ring_origin_room

pub returns-then-clipped-lt-SHORTEST_HOLE-clause-cut : goal.returns-then-clipped-lt-SHORTEST_HOLE-clause-cut
unfolding cut_hole hole_origins flat
returns-then-clipped-lt-SHORTEST_HOLE-clause-cut c = let e = cut-count c.args.ring.now _ _ c.requires.ring_room c.args.bounds _ _
    c.clip_ring-clipped.ensures.ring in
    let t = lt-ltb c.clip_ring-clipped.result 4 (omega
    (arith, c.if-clipped-lt-SHORTEST_HOLE.true)) in record { count = rw (← e, t); numbers = rw (← e, t) refl }

pub returns-then-clipped-lt-SHORTEST_HOLE-clause-origins : goal.returns-then-clipped-lt-SHORTEST_HOLE-clause-origins
unfolding cut_hole hole_origins flat
returns-then-clipped-lt-SHORTEST_HOLE-clause-origins c = let e = cut-count c.args.ring.now _ _ c.requires.ring_room c.args.bounds _ _
    c.clip_ring-clipped.ensures.ring in
    let t = lt-ltb c.clip_ring-clipped.result 4 (omega
    (arith, c.if-clipped-lt-SHORTEST_HOLE.true)) in rw (← e, t)

pub close_with_origins-requires : goal.close_with_origins-requires
close_with_origins-requires c = let k = c.clip_ring-clipped.auto in
    let f = cut_fits c.args.ring.now _ _ c.requires.ring_room c.args.bounds _ _
    c.clip_ring-clipped.ensures.ring (omega
    (arith, c.if-clipped-lt-SHORTEST_HOLE.false)) in (omega (arith, k, f, c.requires.ring_room.output-room), omega (arith, k, f, c.requires.ring_origin_room.output-room))

pub returns-clause-cut : goal.returns-clause-cut
unfolding cut_hole hole_origins
returns-clause-cut c = let s = c.args.ring.now in
    let cut = c.clip_ring-clipped.ensures in
    let closed = c.close_with_origins.ensures in
    let e = cut-count s _ _ c.requires.ring_room c.args.bounds _ _ cut.ring in
    let t = le-ltb _ _ c.if-clipped-lt-SHORTEST_HOLE.false in rw (← e, t) (written_stands (closed-written s _ _ c.requires.ring_room c.args.bounds _ _ cut.ring _ _ closed.ring))

pub returns-clause-origins : goal.returns-clause-origins
unfolding cut_hole hole_origins
returns-clause-origins c = let s = c.args.ring.now in
    let cut = c.clip_ring-clipped.ensures in
    let closed = c.close_with_origins.ensures in
    let e = cut-count s _ _ c.requires.ring_room c.args.bounds _ _ cut.ring in
    let t = le-ltb _ _ c.if-clipped-lt-SHORTEST_HOLE.false in rw (← e, t)
    (closed-origins s _ _ c.requires.ring_room c.args.bounds _ _ cut.ring _ _ closed.ring _ _ cut.origins closed.origins)
