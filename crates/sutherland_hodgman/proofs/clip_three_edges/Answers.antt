-- `clip_three_edges` meets its contract: three stages. Assumes nothing.
use native.Mathlib.Nat.{le_trans}
use native.Mathlib.Omega.{arith}
use Rattle.tile.specs.declared.Edge.TheVariants.{Left, Right, Bottom}
use Rattle.tile.proofs.Rings.{length_front}
use Rattle.sutherland_hodgman.specs.Internal.{three_passes, three_passes_origins}
use Rattle.sutherland_hodgman.proofs.Offered.{le-B}
use Rattle.sutherland_hodgman.proofs.Stages.{stage_start, stage_next, stage_room}
use Rattle.sutherland_hodgman.proofs.OriginStages.{numbered, origins_next, origins-room}
use Rattle.sutherland_hodgman.proofs.clip_three_edges.Goals as goal

pub put_positions-requires : goal.put_positions-requires
put_positions-requires c = (le_trans (le-B c.args.n) c.requires.origin_room.output-room, c.requires.origin_room.positions)

pub clip_ring_against_edge-left-requires-clause-pass_room : goal.clip_ring_against_edge-left-requires-clause-pass_room
clip_ring_against_edge-left-requires-clause-pass_room c = let s0 = stage_start c.args.n c.args.ring.now c.requires.cutter_room.vertices in
    (c.requires.cutter_room.vertices, (stage_room _ _ (omega arith) c.requires.cutter_room.scratch-room c.requires.cutter_room.scratch-room s0).1)

pub clip_ring_against_edge-left-requires-clause-pass_origin_room : goal.clip_ring_against_edge-left-requires-clause-pass_origin_room
clip_ring_against_edge-left-requires-clause-pass_origin_room c = let s0 = stage_start c.args.n c.args.ring.now c.requires.cutter_room.vertices in
    let k = c.put_positions.auto in
    let p = c.requires.origin_room in origins-room _ _
    (omega arith) (omega (arith, p.output-room, k)) p.scratch-room s0

pub clip_ring_against_edge-right-requires-clause-pass_room : goal.clip_ring_against_edge-right-requires-clause-pass_room
clip_ring_against_edge-right-requires-clause-pass_room c = let p = c.requires.cutter_room in
    let s0 = stage_start c.args.n c.args.ring.now p.vertices in
    let s1 = stage_next Left c.args.bounds _ _ _ s0 c.clip_ring_against_edge-left.ensures.written in
    let k1 = c.clip_ring_against_edge-left.auto in stage_room _ _ (omega arith) (omega (arith, p.scratch-room, k1)) p.output-room s1

pub clip_ring_against_edge-right-requires-clause-pass_origin_room : goal.clip_ring_against_edge-right-requires-clause-pass_origin_room
clip_ring_against_edge-right-requires-clause-pass_origin_room c = let p = c.requires.cutter_room in
    let q = c.requires.origin_room in
    let s0 = stage_start c.args.n c.args.ring.now p.vertices in
    let s1 = stage_next Left c.args.bounds _ _ _ s0 c.clip_ring_against_edge-left.ensures.written in
    let k0 = c.put_positions.auto in
    let k1 = c.clip_ring_against_edge-left.auto in origins-room _ _ (omega arith) (omega
    (arith, q.scratch-room, k1)) (omega (arith, q.output-room, k0)) s1

pub clip_ring_against_edge-bottom-requires-clause-pass_room : goal.clip_ring_against_edge-bottom-requires-clause-pass_room
clip_ring_against_edge-bottom-requires-clause-pass_room c = let p = c.requires.cutter_room in
    let s0 = stage_start c.args.n c.args.ring.now p.vertices in
    let s1 = stage_next Left c.args.bounds _ _ _ s0 c.clip_ring_against_edge-left.ensures.written in
    let s2 = stage_next Right c.args.bounds _ _ _ s1 c.clip_ring_against_edge-right.ensures.written in
    let k1 = c.clip_ring_against_edge-left.auto in
    let k2 = c.clip_ring_against_edge-right.auto in stage_room _ _ (omega arith) (omega (arith, p.output-room, k2)) (omega (arith, p.scratch-room, k1)) s2

pub clip_ring_against_edge-bottom-requires-clause-pass_origin_room : goal.clip_ring_against_edge-bottom-requires-clause-pass_origin_room
clip_ring_against_edge-bottom-requires-clause-pass_origin_room c = let p = c.requires.cutter_room in
    let q = c.requires.origin_room in
    let s0 = stage_start c.args.n c.args.ring.now p.vertices in
    let s1 = stage_next Left c.args.bounds _ _ _ s0 c.clip_ring_against_edge-left.ensures.written in
    let s2 = stage_next Right c.args.bounds _ _ _ s1 c.clip_ring_against_edge-right.ensures.written in
    let k0 = c.put_positions.auto in
    let k1 = c.clip_ring_against_edge-left.auto in
    let k2 = c.clip_ring_against_edge-right.auto in origins-room _ _
    (omega arith) (omega (arith, q.output-room, k0, k2)) (omega (arith, q.scratch-room, k1)) s2

pub returns-clause-ring : goal.returns-clause-ring
unfolding three_passes three_passes_origins
returns-clause-ring c = let b = c.args.bounds in
    let s0 = stage_start c.args.n c.args.ring.now c.requires.cutter_room.vertices in
    let e1 = c.clip_ring_against_edge-left.ensures in
    let e2 = c.clip_ring_against_edge-right.ensures in
    let e3 = c.clip_ring_against_edge-bottom.ensures in
    let s1 = stage_next Left b _ _ _ s0 e1.written in
    let s2 = stage_next Right b _ _ _ s1 e2.written in
    let s3 = stage_next Bottom b _ _ _ s2 e3.written in
    s3.stands

pub returns-clause-origins : goal.returns-clause-origins
unfolding three_passes three_passes_origins
returns-clause-origins c = let b = c.args.bounds in
    let s0 = stage_start c.args.n c.args.ring.now c.requires.cutter_room.vertices in
    let e1 = c.clip_ring_against_edge-left.ensures in
    let e2 = c.clip_ring_against_edge-right.ensures in
    let e3 = c.clip_ring_against_edge-bottom.ensures in
    let s1 = stage_next Left b _ _ _ s0 e1.written in
    let s2 = stage_next Right b _ _ _ s1 e2.written in
    let o0 = numbered c.args.n _ _ c.put_positions.ensures in
    let o1 = origins_next Left b _ _ _ _ _ _ s0.stands o0 e1.written e1.origins in
    let o2 = origins_next Right b _ _ _ _ _ _ s1.stands o1 e2.written e2.origins in
    let o3 = origins_next Bottom b _ _ _ _ _ _ s2.stands o2 e3.written e3.origins in rw (length_front c.args.ring.now c.args.n c.requires.cutter_room.vertices) o3
