-- `clip_padded` meets its contract: the cut and its origins have room in their outputs, and the rest of these is cleared. Assumes nothing.
use mathlib.Core.Path.{◌≡◌, ◌∙◌}
use Prim.Native.Nat.{◌*◌, ◌/◌, ◌≤◌}
use native.Mathlib.Omega.{arith}
use lib.Ieee.{of_bits}
use lib.ListN.{length, take}
use borrow.Author.Rules.{rules}
use Rattle.tile.specs.Ring.{coords}
use Rattle.tile.proofs.Rings.{count-coords}
use Rattle.sutherland_hodgman.specs.Growth.{B, most_coordinates}
use Rattle.sutherland_hodgman.specs.Internal.{RingCut}
use Rattle.sutherland_hodgman.specs.Origins.{clip_origins}
use Rattle.sutherland_hodgman.proofs.Offered.{B-le, last-room, last-origin-room, last-cut, last-origins, whole_ring}
use Rattle.ring_calls.proofs.Calls.{cut-room, cut-padded, rest_cleared}
use Rattle.ring_calls.proofs.clip_padded.Goals as goal
use Rattle.ring_calls.proofs.clip_padded.Goals.{After-clip_top-len}

-- what the two leave in the outputs is the cut with its origins, and the outputs are as long as they were
record Done (c : After-clip_top-len) : Type 0 where
  cut : RingCut c.args.bounds (coords c.args.ring.now)
      c.clip_top-len.result c.clip_top-len.new.out
  origins : take c.clip_top-len.result c.clip_top-len.new.out_origins
      ≡ clip_origins c.args.bounds (coords c.args.ring.now)
  same : length c.clip_top-len.new.out ≡ length c.args.out.now
  origins-same : length c.clip_top-len.new.out_origins ≡ length c.args.out_origins.now
  within : c.clip_top-len.result ≤ B (length c.args.ring.now / 2)
  few : B (length c.args.ring.now / 2) ≤ 8 * most_coordinates

done : (c : After-clip_top-len) → Done c
done c =
    let s = c.args.ring.now in
    let e = c.clip_three_edges-bottom.ensures in
    let t = c.clip_top-len.ensures in
    let doubles = c.shared_slice_known-1.given in
    let cut = last-cut c.args.bounds s (length c.args.ring.now / 2) _ _ e.ring (search rules, search rules, search rules, search rules) doubles _ _
    t.ring in
    let whole : RingCut c.args.bounds (coords s) _ _ = rw (whole_ring s) at cut in
    let origins = last-origins c.args.bounds s (length s / 2) _ _ e.ring _ _ e.origins t.origins in
    record {
      cut = whole;
      origins = rw (whole_ring s) at origins;
      same = c.clip_top-len.auto.out ∙ c.clip_three_edges-bottom.auto.out;
      origins-same = c.clip_top-len.auto.out_origins ∙ c.clip_three_edges-bottom.auto.out_origins;
      within = cut-room c.args.bounds _ (length c.args.ring.now / 2) (count-coords s) _ _ whole;
      few = B-le (length c.args.ring.now / 2) c.requires.origin_room.positions;
    }

pub clip_top-len-requires-clause-numbers_room : goal.clip_top-len-requires-clause-numbers_room
clip_top-len-requires-clause-numbers_room c = let p = c.requires.cutter_room in
    let q = c.requires.origin_room in
    let k = c.clip_three_edges-bottom.auto in
    let t = c.clip_three_edges-bottom.ensures.ring in last-room c.args.bounds c.args.ring.now (length c.args.ring.now / 2) _ _ t (record {
      vertices = p.vertices;
      scratch-room = omega (arith, p.scratch-room, k);
      output-room = omega (arith, p.output-room, k);
    })

pub clip_top-len-requires-clause-origins_room : goal.clip_top-len-requires-clause-origins_room
clip_top-len-requires-clause-origins_room c = let p = c.requires.cutter_room in
    let q = c.requires.origin_room in
    let k = c.clip_three_edges-bottom.auto in
    let t = c.clip_three_edges-bottom.ensures.ring in last-origin-room c.args.bounds c.args.ring.now (length c.args.ring.now / 2) _ _ t p.vertices (record {
      positions = q.positions;
      scratch-room = omega (arith, q.scratch-room, k);
      output-room = omega (arith, q.output-room, k);
    })

pub overflow_mul-used : goal.overflow_mul-used
overflow_mul-used c = let d = done (goal.at.overflow_mul-used c).After-clip_top-len in omega (arith, d.within, d.few)

pub offset_bounds-out-used : goal.offset_bounds-out-used
offset_bounds-out-used c = let d = done (goal.at.offset_bounds-out-used c).After-clip_top-len in omega (arith, d.within, d.few)

pub slice_bounds-fill-count : goal.slice_bounds-fill-count
slice_bounds-fill-count c = let d = done (goal.at.slice_bounds-fill-count c).After-clip_top-len in omega (
  arith,
  d.within,
  d.same,
  c.requires.cutter_room.output-room,
)

pub slice_bounds-fill-start : goal.slice_bounds-fill-start
slice_bounds-fill-start c = let d = done (goal.at.slice_bounds-fill-start c).After-clip_top-len in omega (
  arith,
  d.within,
  d.same,
  c.requires.cutter_room.output-room,
)

pub offset_bounds-out_origins-len : goal.offset_bounds-out_origins-len
offset_bounds-out_origins-len c = let d = done (goal.at.offset_bounds-out_origins-len c).After-clip_top-len in omega (arith, d.within, d.few)

pub slice_bounds-fill-count-2 : goal.slice_bounds-fill-count-2
slice_bounds-fill-count-2 c = let d = done (goal.at.slice_bounds-fill-count-2 c).After-clip_top-len in omega (
  arith,
  d.within,
  d.origins-same,
  c.requires.origin_room.output-room,
)

pub slice_bounds-fill-start-2 : goal.slice_bounds-fill-start-2
slice_bounds-fill-start-2 c = let d = done (goal.at.slice_bounds-fill-start-2 c).After-clip_top-len in omega (
  arith,
  d.within,
  d.origins-same,
  c.requires.origin_room.output-room,
)

pub returns-clause-ring : goal.returns-clause-ring
unfolding of_bits
returns-clause-ring c = let s = c.args.ring.now in
    let d = done (goal.at.returns-clause-ring c).After-clip_top-len in rw (← d.same) (cut-padded c.args.bounds (coords s) (length c.args.ring.now / 2)
    (count-coords s) _ _ d.cut _
    (c.fill.ensures.after (λ y e. e)))

pub returns-clause-origins : goal.returns-clause-origins
returns-clause-origins c = let s = c.args.ring.now in
    let d = done (goal.at.returns-clause-origins c).After-clip_top-len in rw (← d.origins-same) (rest_cleared 0 _ c.clip_top-len.new.out_origins _ c.clip_top-len.result d.origins (c.fill-2.ensures.after (λ y e. e)))
