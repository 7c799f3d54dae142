-- `clip_top` meets its contract. Assumes nothing.
use Prim.Native.Nat.{◌*◌}
use native.Mathlib.Omega.{arith}
use lib.ListN.{length, take}
use Rattle.tile.specs.Ring.{coords}
use Rattle.tile.proofs.Rings.{length_front, written_stands, written-front}
use Rattle.sutherland_hodgman.proofs.LastPass.{top_room}
use Rattle.sutherland_hodgman.proofs.OriginStages.{origins_topped}
use Rattle.sutherland_hodgman.proofs.clip_top.Goals as goal

pub finish-requires-clause-numbers_room : goal.finish-requires-clause-numbers_room
finish-requires-clause-numbers_room c = let s = c.args.scratch.now in
    let e = c.clip_ring_against_edge-top.ensures in
    let k = c.clip_ring_against_edge-top.auto in
    let p = top_room c.args.bounds (coords (take (2 * c.args.n) s)) c.args.n _ in
    let r = p _ (length_front s c.args.n c.requires.numbers_room.0) e.written.count c.requires.numbers_room.1 c.requires.numbers_room.2 in
    (omega (arith, r.0, k), λ h. omega (arith, r.1 h, k))

pub finish-requires-clause-origins_room : goal.finish-requires-clause-origins_room
finish-requires-clause-origins_room c = let s = c.args.scratch.now in
    let e = c.clip_ring_against_edge-top.ensures in
    let k = c.clip_ring_against_edge-top.auto in
    let p = top_room c.args.bounds (coords (take (2 * c.args.n) s)) c.args.n _ in
    let t = p (2 * length c.args.out_origins.now) (length_front s c.args.n c.requires.numbers_room.0) e.written.count (omega
    (arith, c.requires.origins_room.1)) (λ h. omega (arith, c.requires.origins_room.2 h)) in (omega (arith, t.0, k), λ h. omega (arith, t.1 h, k))

pub returns-clause-ring : goal.returns-clause-ring
returns-clause-ring c = let e = c.clip_ring_against_edge-top.ensures in
    let f = c.finish.ensures in written_stands (rw (written-front e.written) at f.ring)

pub returns-clause-origins : goal.returns-clause-origins
returns-clause-origins c = let r = coords (take (2 * c.args.n) c.args.scratch.now) in
    let e = c.clip_ring_against_edge-top.ensures in
    let f = c.finish.ensures in origins_topped c.args.bounds r (take c.args.n c.args.origin_scratch.now) c.args.out_origins.now _ _ c.args.out.now _ _ _ _ e.written e.origins f.ring f.origins
