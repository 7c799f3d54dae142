-- `leave` meets its contract: a run of steps from in to in, and one from in to out. Assumes nothing.
use mathlib.Core.Path.{◌∙◌}
use mathlib.Core.Bool.{true, false}
use Prim.Native.Nat.{◌+◌, ◌*◌, ◌^◌, ◌≤◌, ◌<◌}
use native.Mathlib.Omega.{arith}
use borrow.Author.Rules.{rules}
use lib.ListN.{length, take}
use Rattle.tile.specs.Ring.{coords}
use Rattle.edge_pass.specs.Internal.{steps_left}
use Rattle.edge_pass.proofs.Walking.{rest_then, rest_end, in_out, in_out_room, past_end}
use Rattle.edge_pass.proofs.OriginWalking.{origins_copied, origins_end, in_out_origin}
use Rattle.edge_pass.proofs.leave.Goals as goal
use Rattle.edge_pass.proofs.leave.Goals.{Else-m-to}

-- where the line is crossed: the room for one more
room : (c : Else-m-to) → (2 * (c.copy_inside-to.result.len
    + 1) ≤ length c.args.out.now) × (c.copy_inside-to.result.len + 1 ≤ length c.args.out_origins.now)
    × (c.copy_inside-to.result.len + 1 < 2 ^ 63) ×
    (c.copy_inside-to.result.i + 1 < 2 ^ 63)
room c =
    let s = c.args.ring.now in
    let m = c.args.m in
    let to = c.copy_inside-to.result in
    let e = c.copy_inside-to.ensures in
    let o = c.copy_inside-to.ensures.rest.3.count in
    let k = to.len + length (steps_left c.args.edge c.args.bounds (coords (take (2 * m) s)) true to.i) in
    let r : 2 * k ≤ length c.args.out.now = omega (arith, c.requires.walk_room.2) in
    let t : 2 * k ≤ 2 * length c.args.out_origins.now = omega (arith, c.requires.origin_walk_room.1) in
    let q = in_out_room c.args.edge c.args.bounds s m c.requires.walk_room.0 to.i c.if-m-to.false (e.rest.2 c.if-m-to.false) to.len in
    (q _ r, omega (arith, q _ t), omega (arith, q _ t, c), omega (arith, c.if-m-to.false, c))

pub returns-then-m-to-clause-rest : goal.returns-then-m-to-clause-rest
returns-then-m-to-clause-rest c = let s = c.args.ring.now in
    let m = c.args.m in
    let e = c.copy_inside-to.ensures in
    let p = past_end s m c.requires.walk_room.0 _ c.if-m-to.true in (
      search rules,
      search rules,
      rest_then c.args.edge c.args.bounds (coords (take (2 * m) s)) e.rest.3 (rest_end c.args.edge c.args.bounds
          (coords (take (2 * m) s)) true false _ _ _ p),
    )

pub returns-then-m-to-clause-origins : goal.returns-then-m-to-clause-origins
returns-then-m-to-clause-origins c = let s = c.args.ring.now in
    let m = c.args.m in
    let os = c.args.origins.now in
    let e = c.copy_inside-to.ensures in
    let p = past_end s m c.requires.walk_room.0 _ c.if-m-to.true in
    let g = origins_copied c.args.edge c.args.bounds (coords (take (2 * m) s)) os _ _ _ _ c.args.out_origins.now _
    e.origins.1 e.rest.0 (omega (arith, e.rest.1, c.requires.origin_walk_room.0)) e.origins.0
    c.copy_origins.ensures in g ∙ origins_end c.args.edge c.args.bounds (coords (take (2 * m) s)) os true false _ _ _ p

pub put_with_origin-requires : goal.put_with_origin-requires
put_with_origin-requires c = let r = room (goal.at.put_with_origin-requires c).Else-m-to in (
  omega (arith, r.0),
  omega (
    arith,
    r.1,
    c.copy_origins.auto,
  ),
)

pub returns-clause-rest : goal.returns-clause-rest
returns-clause-rest c = let s = c.args.ring.now in
    let m = c.args.m in
    let to = c.copy_inside-to.result in
    let e = c.copy_inside-to.ensures in
    let h = c.if-m-to.false in
    let p = c.put_with_origin.ensures in (
      search rules,
      search rules,
      rest_then c.args.edge c.args.bounds (coords (take (2 * m) s)) e.rest.3
          (in_out c.args.edge c.args.bounds s m c.requires.walk_room.0 to.i h _ _ _
          c.previous-s.ensures
          c.coord_at-e.ensures
          c.intersect.ensures.crossing (e.rest.2 h) to.len _ _ p.vertex),
    )

pub returns-clause-origins : goal.returns-clause-origins
returns-clause-origins c = let s = c.args.ring.now in
    let m = c.args.m in
    let os = c.args.origins.now in
    let to = c.copy_inside-to.result in
    let e = c.copy_inside-to.ensures in
    let h = c.if-m-to.false in
    let g = origins_copied c.args.edge c.args.bounds (coords (take (2 * m) s)) os _ _ _ _ c.args.out_origins.now _
    e.origins.1 e.rest.0 (omega (arith, e.rest.1, c.requires.origin_walk_room.0)) e.origins.0
    c.copy_origins.ensures in
    let p = c.put_with_origin.ensures in g ∙ in_out_origin c.args.edge c.args.bounds s m c.requires.walk_room.0 to.i h (e.rest.2 h) os _ to.len _ _
    c.line_origin.ensures p.origin
