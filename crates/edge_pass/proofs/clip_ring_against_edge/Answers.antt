-- `clip_ring_against_edge` meets its contract. The invariant: the pass goes on from where the loop started to where it stands. Assumes
-- nothing.
use mathlib.Core.Path.{◌≡◌, refl, ap}
use mathlib.Core.List.{[]}
use Prim.Native.Nat.{◌*◌, ◌≤◌, ◌<◌}
use native.Mathlib.Omega.{arith}
use native.Mathlib.Nat.{le_of_eq}
use lib.ListN.{length, take}
use Rattle.tile.specs.Ring.{coords}
use Rattle.tile.proofs.Rings.{length_front}
use Rattle.edge_pass.proofs.Walking.{starts, begun, judged, walk_end, past_end}
use Rattle.edge_pass.proofs.Walking.{pass-around, pass-room, pass-none}
use Rattle.edge_pass.proofs.OriginWalking.{starts_origins, origins-walked, pass-origins-around, pass-origins-none}
use Rattle.edge_pass.proofs.Verdicts.{verdicts-none, verdicts-some}
use Rattle.edge_pass.proofs.clip_ring_against_edge.Goals as goal

pub returns-then-m-eq0-clause-written : goal.returns-then-m-eq0-clause-written
unfolding coords
returns-then-m-eq0-clause-written c = let s = c.args.ring.now in
    let n = c.args.n in
    let r = coords (take (2 * n) s) in
    let kept = coords (take (2 * c.left_off-m.result) s) in
    let k = c.left_off-m.ensures.1 in
    let z : kept ≡ [] = rw c.if-m-eq0.true in pass-none c.args.edge c.args.bounds r kept k c.args.out.now z

pub returns-then-m-eq0-clause-verdicts : goal.returns-then-m-eq0-clause-verdicts
unfolding coords
returns-then-m-eq0-clause-verdicts c = let s = c.args.ring.now in
    let n = c.args.n in
    let r = coords (take (2 * n) s) in
    let kept = coords (take (2 * c.left_off-m.result) s) in
    let k = c.left_off-m.ensures.1 in
    let z : kept ≡ [] = rw c.if-m-eq0.true in verdicts-none r kept k z

pub returns-then-m-eq0-clause-origins : goal.returns-then-m-eq0-clause-origins
unfolding coords
returns-then-m-eq0-clause-origins c = let s = c.args.ring.now in
    let n = c.args.n in
    let r = coords (take (2 * n) s) in
    let kept = coords (take (2 * c.left_off-m.result) s) in
    let k = c.left_off-m.ensures.1 in
    let z : kept ≡ [] = rw c.if-m-eq0.true in pass-origins-none c.args.edge c.args.bounds r kept k n c.args.origins.now c.args.out_origins.now
    (le_of_eq (length_front s n c.requires.pass_room.0)) z

pub turn-at-requires-clause-walk_room : goal.turn-at-requires-clause-walk_room
turn-at-requires-clause-walk_room c = let s = c.args.ring.now in
    let m = c.left_off-m.result in
    let l = c.loop-at in
    let h : 2 * m ≤ length s = omega (
      arith,
      c.left_off-m.ensures.0,
      c.requires.pass_room.0,
    ) in
    let f = judged c.args.edge c.args.bounds _ _ _ c.judge-start.result.inside
    c.coord_at.ensures
    c.judge-start.ensures.0 refl in
    let q = ap length (starts c.args.edge c.args.bounds s m h _ (omega arith) f) in
    let k = c.left_off-m.ensures.1 in
    let p = pass-room c.args.edge c.args.bounds (coords (take (2 * c.args.n) s)) (coords (take (2 * m) s)) k c.args.n in
    let r = p _ (length_front s c.args.n c.requires.pass_room.0) c.requires.pass_room.1 in
    let o = c.loop-at.invariant.2.count in (h, c.loop-at-test.true, omega (arith, l.invariant.1), l.invariant.3)

pub turn-at-requires-clause-origin_walk_room : goal.turn-at-requires-clause-origin_walk_room
turn-at-requires-clause-origin_walk_room c = let s = c.args.ring.now in
    let m = c.left_off-m.result in
    let l = c.loop-at in
    let h : 2 * m ≤ length s = omega (
      arith,
      c.left_off-m.ensures.0,
      c.requires.pass_room.0,
    ) in
    let f = judged c.args.edge c.args.bounds _ _ _ c.judge-start.result.inside
    c.coord_at.ensures
    c.judge-start.ensures.0 refl in
    let q = ap length (starts c.args.edge c.args.bounds s m h _ (omega arith) f) in
    let k = c.left_off-m.ensures.1 in
    let p = pass-room c.args.edge c.args.bounds (coords (take (2 * c.args.n) s)) (coords (take (2 * m) s)) k c.args.n in
    let t = p (2 * length c.args.out_origins.now) (length_front s c.args.n c.requires.pass_room.0) (omega (arith, c.requires.pass_origin_room.1)) in
    let o = c.loop-at.invariant.2.count in (
      omega (arith, c.left_off-m.ensures.0, c.requires.pass_origin_room.0),
      omega (arith, l.invariant.4),
    )

pub returns-clause-written : goal.returns-clause-written
returns-clause-written c = let s = c.args.ring.now in
    let n = c.args.n in
    let m = c.left_off-m.result in
    let l = c.loop-at in
    let h : 2 * m ≤ length s = omega (arith, c.left_off-m.ensures.0, c.requires.pass_room.0) in
    let k = c.left_off-m.ensures.1 in
    let f = judged c.args.edge c.args.bounds _ _ _ c.judge-start.result.inside
    c.coord_at.ensures c.judge-start.ensures.0 refl in
    let some : 0 < m = omega arith in
    let q = begun c.args.edge c.args.bounds (coords (take (2 * m) s)) _ _ c.args.out.now _ _ _ (starts c.args.edge
    c.args.bounds s m h _ some f) l.invariant.2 in
    let p = pass-room c.args.edge c.args.bounds (coords (take (2 * n) s)) (coords (take (2 * m) s)) k n in
    let r = p _ (length_front s n c.requires.pass_room.0) c.requires.pass_room.1 in
    let past = past_end s m h _ c.loop-at-test.false in
    let w = walk_end c.args.edge c.args.bounds (coords (take (2 * m) s)) c.args.out.now _ _ _ _ past r q.0 q.1 in
    rw (pass-around c.args.edge c.args.bounds (coords (take (2 * n) s)) (coords (take (2 * m) s)) k) w

pub returns-clause-verdicts : goal.returns-clause-verdicts
returns-clause-verdicts c = let s = c.args.ring.now in
    let n = c.args.n in
    let m = c.left_off-m.result in
    let l = c.loop-at in
    let h : 2 * m ≤ length s = omega (arith, c.left_off-m.ensures.0, c.requires.pass_room.0) in
    let k = c.left_off-m.ensures.1 in
    verdicts-some (coords (take (2 * n) s)) (coords (take (2 * m) s)) k _ (omega (arith, length_front s m h))
    (omega (arith, length_front s m h, l.invariant.3, l.invariant.0, c.loop-at-test.false))

pub returns-clause-origins : goal.returns-clause-origins
returns-clause-origins c = let s = c.args.ring.now in
    let n = c.args.n in
    let m = c.left_off-m.result in
    let l = c.loop-at in
    let h : 2 * m ≤ length s = omega (arith, c.left_off-m.ensures.0, c.requires.pass_room.0) in
    let k = c.left_off-m.ensures.1 in
    let f = judged c.args.edge c.args.bounds _ _ _ c.judge-start.result.inside
    c.coord_at.ensures c.judge-start.ensures.0 refl in
    let some : 0 < m = omega arith in
    let q = begun c.args.edge c.args.bounds (coords (take (2 * m) s)) _ _ c.args.out.now _ _ _ (starts c.args.edge
    c.args.bounds s m h _ some f) l.invariant.2 in
    let p = pass-room c.args.edge c.args.bounds (coords (take (2 * n) s)) (coords (take (2 * m) s)) k n in
    let r = p _ (length_front s n c.requires.pass_room.0) c.requires.pass_room.1 in
    let t = p (2 * length c.args.out_origins.now) (length_front s n c.requires.pass_room.0) (omega (arith, c.requires.pass_origin_room.1)) in
    let past = past_end s m h _ c.loop-at-test.false in
    let w = walk_end c.args.edge c.args.bounds (coords (take (2 * m) s)) c.args.out.now _ _ _ _ past r q.0 q.1 in
    let os = c.args.origins.now in
    let o = origins-walked c.args.edge c.args.bounds (coords (take (2 * m) s)) os _ _ c.args.out_origins.now _ _ _
    (starts_origins c.args.edge c.args.bounds s m h os _ some f) l.invariant.5 past w.count (omega arith) in rw (pass-origins-around c.args.edge c.args.bounds (coords (take (2 * n) s)) (coords (take (2 * m) s)) k n os
    (le_of_eq (length_front s n c.requires.pass_room.0))) o
