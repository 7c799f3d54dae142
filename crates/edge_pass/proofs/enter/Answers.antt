-- `enter` meets its contract: a run of steps from out to out, and one from out to in. Assumes nothing.
use mathlib.Core.Path.{◌∙◌, ap}
use mathlib.Core.Bool.{true, false}
use Prim.Native.Nat.{◌+◌, ◌*◌, ◌^◌, ◌≤◌, ◌<◌}
use native.Mathlib.Omega.{arith}
use borrow.Author.Rules.{rules}
use lib.ListN.{length, take}
use Rattle.tile.specs.Ring.{coords}
use Rattle.edge_pass.specs.Internal.{steps_left}
use Rattle.edge_pass.proofs.Walking.{rest_then, rest_end, rest_skip, out_in, out_in-room, past_end}
use Rattle.edge_pass.proofs.OriginWalking.{origins_end, origins_skip, out_in-origin}
use Rattle.edge_pass.proofs.enter.Goals as goal
use Rattle.edge_pass.proofs.enter.Goals.{Else-m-next}

-- where the line is crossed there is room for two more vertices and their origins
room : (c : Else-m-next) → (2 * (c.skip_outside-next.result.len + 2) ≤ length c.args.out.now)
    × (c.skip_outside-next.result.len + 2 ≤ length c.args.out_origins.now)
    × (c.skip_outside-next.result.len + 2 < 2 ^ 63) × (2 * (c.skip_outside-next.result.i + 1) < 2 ^ 63)
room c =
    let s = c.args.ring.now in
    let m = c.args.m in
    let next = c.skip_outside-next.result in
    let e = c.skip_outside-next.ensures.rest in
    let o = ap length e.3 in
    let k = next.len + length (steps_left c.args.edge c.args.bounds (coords (take (2 * m) s)) false next.i) in
    let r : 2 * k ≤ length c.args.out.now = omega (arith, c.requires.walk_room.2) in
    let t : 2 * k ≤ 2 * length c.args.out_origins.now = omega (arith, c.requires.origin_walk_room.1) in
    let q = out_in-room c.args.edge c.args.bounds s m c.requires.walk_room.0 next.i c.if-m-next.false (e.2 c.if-m-next.false) next.len in
    (q _ r, omega (arith, q _ t), omega (arith, q _ t, c), omega (arith, c.if-m-next.false, c))

pub returns-then-m-next-clause-rest : goal.returns-then-m-next-clause-rest
returns-then-m-next-clause-rest c = let s = c.args.ring.now in
    let m = c.args.m in
    let e = c.skip_outside-next.ensures in
    let p = past_end s m c.requires.walk_room.0 _ c.if-m-next.true in (
      search rules,
      search rules,
      rest_then c.args.edge c.args.bounds (coords (take (2 * m) s))
          (rest_skip c.args.edge c.args.bounds (coords (take (2 * m) s)) _ _ _ _ _ e.rest.3 e.rest.4)
          (rest_end c.args.edge c.args.bounds (coords (take (2 * m) s)) false true _ _ _ p),
    )

pub returns-then-m-next-clause-origins : goal.returns-then-m-next-clause-origins
returns-then-m-next-clause-origins c = let s = c.args.ring.now in
    let m = c.args.m in
    let os = c.args.origins.now in
    let e = c.skip_outside-next.ensures in
    let p = past_end s m c.requires.walk_room.0 _ c.if-m-next.true in origins_skip c.args.edge c.args.bounds (coords (take (2 * m) s)) os _ _ _ _ _ (e.origins os) e.rest.4
    ∙ origins_end c.args.edge c.args.bounds (coords (take (2 * m) s)) os false true _ _ _ p

pub put_with_origin-requires : goal.put_with_origin-requires
put_with_origin-requires c = let r = room (goal.at.put_with_origin-requires c).Else-m-next in (
  omega (arith, r.0),
  omega
      (arith, r.1),
)

pub put_with_origin-requires-2 : goal.put_with_origin-requires-2
put_with_origin-requires-2 c = let r = room (goal.at.put_with_origin-requires-2 c).Else-m-next in (omega (arith, r.0), omega (arith, r.1))

pub returns-clause-rest : goal.returns-clause-rest
returns-clause-rest c = let s = c.args.ring.now in
    let m = c.args.m in
    let next = c.skip_outside-next.result in
    let e = c.skip_outside-next.ensures in
    let h = c.if-m-next.false in
    let p = c.put_with_origin.ensures in
    let q = c.put_with_origin-2.ensures in (
      search rules,
      search rules,
      rest_then c.args.edge c.args.bounds (coords (take (2 * m) s))
          (rest_skip c.args.edge c.args.bounds (coords (take (2 * m) s)) _ _ _ _ _ e.rest.3 e.rest.4)
          (out_in c.args.edge c.args.bounds s m c.requires.walk_room.0 next.i h _ _ _
          c.previous-s.ensures
          c.coord_at-e.ensures
          c.intersect.ensures.crossing (e.rest.2 h) next.len c.args.out.now _ _ p.vertex q.vertex),
    )

pub returns-clause-origins : goal.returns-clause-origins
returns-clause-origins c = let s = c.args.ring.now in
    let m = c.args.m in
    let os = c.args.origins.now in
    let next = c.skip_outside-next.result in
    let e = c.skip_outside-next.ensures in
    let h = c.if-m-next.false in
    let p = c.put_with_origin.ensures in
    let q = c.put_with_origin-2.ensures in origins_skip c.args.edge c.args.bounds (coords (take (2 * m) s)) os _ _ _ _ _ (e.origins os) e.rest.4
    ∙ out_in-origin c.args.edge c.args.bounds s m c.requires.walk_room.0 next.i h (e.rest.2 h) os _ next.len
    c.args.out_origins.now _ _ c.line_origin.ensures p.origin q.origin
