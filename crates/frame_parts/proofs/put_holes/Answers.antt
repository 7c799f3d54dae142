-- `put_holes` meets its contract. The invariant: the holes that are left are there and have room, and what is written with what is left to
-- write is all that was to be written. Assumes nothing.
use mathlib.Core.Path.{◌≡◌, refl, sym, ◌∙◌}
use mathlib.Core.List.{[]}
use Prim.Native.Nat.{◌+◌, ◌*◌, ◌-◌, ◌<◌}
use native.Mathlib.Omega.{arith}
use lib.ListN.{drop}
use lib.Seq.{length-take-le}
use Rattle.tile.specs.Ring.{close}
use Rattle.clip.specs.Polygon.{unless_none}
use Rattle.frame_bytes.specs.Frame.{count_of, coords_of}
use Rattle.frame_parts.specs.Internal.{hole_vertices, PutRings}
use Rattle.frame_parts.proofs.Cutting.{same-lengths, ahead_then, ahead_hole, ahead_none, hole_whole, hole_lent}
use Rattle.frame_parts.proofs.Cutting.{hole_room, hole_origin-room, cut_put, cut-ring, next_room, holes_end, unless_count}
use Rattle.frame_parts.proofs.put_holes.Goals as goal

pub ring_at-from-requires : goal.ring_at-from-requires
ring_at-from-requires c = let l = c.loop in
    let k = c.args.holes - l.counter in
    hole_whole c.args.bounds c.args.frame.now l.at k _ _ _ (omega arith) l.invariant.0

pub decode_ring-next-requires : goal.decode_ring-next-requires
decode_ring-next-requires c = let l = c.loop in
    let k = c.args.holes - l.counter in
    let n = c.ring_at-from.ensures.2 in
    omega (arith, n, hole_lent c.args.bounds c.args.frame.now l.at k _ _ _ (omega arith) l.invariant.0 l.ring refl)

pub slice_bounds-clip_hole-end : goal.slice_bounds-clip_hole-end
slice_bounds-clip_hole-end c = let l = c.loop in
    let k = c.args.holes - l.counter in
    let h = hole_lent c.args.bounds c.args.frame.now l.at k _ _ _ (omega arith) l.invariant.0 l.ring refl in
    omega (arith, h, c.ring_at-from.ensures.2, c.decode_ring-next.auto.ring)

pub slice_bounds-clip_hole-end-in-loop : goal.slice_bounds-clip_hole-end-in-loop
slice_bounds-clip_hole-end-in-loop c = let l = c.loop in
    let k = c.args.holes - l.counter in
    let h = hole_lent c.args.bounds c.args.frame.now l.at k _ _ _ (omega arith) l.invariant.0 l.ring refl in
    sym (length-take-le (2 * c.ring_at-from.result.n) c.decode_ring-next.new.ring
    (omega (arith, h, c.ring_at-from.ensures.2, c.decode_ring-next.auto.ring)))

pub clip_hole-m-requires-clause-ring_room : goal.clip_hole-m-requires-clause-ring_room
clip_hole-m-requires-clause-ring_room c = let l = c.loop in
    let k = c.args.holes - l.counter in
    let f = c.args.frame.now in
    let bounds = c.args.bounds in
    let h : 0 < k = omega arith in
    let from = c.ring_at-from.ensures in
    rw (c.decode_ring-next.ensures.1, from.0, from.1, from.2) (hole_room bounds f l.at k _ _ _ h l.invariant.0 l.ring refl)

pub clip_hole-m-requires-clause-ring_origin_room : goal.clip_hole-m-requires-clause-ring_origin_room
clip_hole-m-requires-clause-ring_origin_room c = let l = c.loop in
    let k = c.args.holes - l.counter in
    let f = c.args.frame.now in
    let bounds = c.args.bounds in
    let h : 0 < k = omega arith in
    let from = c.ring_at-from.ensures in
    rw (c.decode_ring-next.ensures.1, from.0, from.1, from.2) (hole_origin-room bounds f l.at k _ _ _ h l.invariant.0 l.ring refl)

pub put_cut_ring-written-requires : goal.put_cut_ring-written-requires
put_cut_ring-written-requires c = let l = c.loop in
    let k = c.args.holes - l.counter in
    let a = c.args in
    let cut = c.clip_hole-m.ensures in
    let from = c.ring_at-from.ensures in
    let p = cut_put a.bounds a.frame.now l.at k _ _ _ (omega arith)
    l.invariant.0 _ l.ring _
    from.2 (rw (from.0, from.1) at c.decode_ring-next.ensures.1) refl _ _ _ cut.cut
    cut.origins in (p.0, p.1, p.2, omega (arith, l.invariant.1))

pub loop-preserved : goal.loop-preserved
loop-preserved c = let l = c.loop in
    let k = c.args.holes - l.counter in
    let f = c.args.frame.now in
    let bounds = c.args.bounds in
    let h : 0 < k = omega arith in
    let from = c.ring_at-from.ensures in
    let n = from.2 in
    let decode = c.decode_ring-next in
    let clip = c.clip_hole-m in
    let here = close (coords_of (count_of (drop l.at f)) (drop (l.at + 2) f)) in
    let put : PutRings (unless_none (hole_vertices bounds here) []) _ _ _ _ =
    rw (cut-ring bounds f l.at k _ _ _ h l.invariant.0 _ l.ring _ n (rw (from.0, from.1) at decode.ensures.1) refl _ _ _ clip.ensures.cut
    clip.ensures.origins) at c.put_cut_ring-written.ensures in
    let next = next_room bounds f l.at k _ _ _ h l.invariant.0 _ _ _ put in
    let ahead = ahead_hole bounds f l.at k _ _ _ h l.invariant.0 _ _ _ put in
    let kr = c.decode_ring-next.auto.ring in
    let ka = c.clip_hole-m.auto.scratch in
    let kao = c.clip_hole-m.auto.origin_scratch in
    let kb = c.clip_hole-m.auto.out in
    let kbo = c.clip_hole-m.auto.out_origins in
    let ko = c.put_cut_ring-written.auto.out in
    let less : c.args.holes - (l.counter + 1) ≡ k - 1 = omega arith in
    let at : decode.result ≡ l.at + 2 + 16 * count_of (drop l.at f) = decode.ensures.0 ∙ rw (from.1, n) in (
      rw (at, less, same-lengths kr ka kao kb kbo, ko) next,
      omega (arith, l.invariant.1, put.rings-after, unless_count (hole_vertices bounds here)),
      rw (at, less) (ahead_then l.invariant.2 ahead),
      kr ∙ l.invariant.3,
      ka ∙ l.invariant.4,
      kao ∙ l.invariant.5,
      kb ∙ l.invariant.6,
      kbo ∙ l.invariant.7,
      ko ∙ l.invariant.8,
    )

pub returns : goal.returns
returns c = let l = c.loop in
    let k = c.args.holes - l.counter in
    let a = c.args in ahead_none _ _ _ _ _ (rw (holes_end a.bounds a.frame.now l.at k (omega arith)) at l.invariant.2)
