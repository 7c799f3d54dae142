-- `add_part` meets its contract: each return is a case of the routing, listed. Assumes nothing.
use mathlib.Core.List.{[]}
use native.Mathlib.Omega.{arith}
use Rattle.clip.specs.Polygon.{nothing, unchanged, route_measured}
use Rattle.clip.specs.Origins.{routed_origins}
use Rattle.frame_bytes.specs.Internal.{part_at}
use Rattle.frame_parts.proofs.CutParts.{part-head}
use Rattle.frames.specs.Internal.{route_part_as}
use Rattle.frames.proofs.Listings.{listed-part}
use Rattle.frames.proofs.parts.add_part.Goals as goal

pub returns-then-not-intersects_bounds : goal.returns-then-not-intersects_bounds
unfolding route_part_as
returns-then-not-intersects_bounds c = let a = c.args in
    let e = c.if-not-intersects_bounds.true in rw (← c.intersects_bounds.ensures, e) (listed-part a.index [] a.before a.out.now nothing)

pub list_part-requires : goal.list_part-requires
list_part-requires c = let a = c.args in
    let p = c.requires in (part-head a.part _ _ _ p.0, p.2)

pub returns-then-is_fully_inside : goal.returns-then-is_fully_inside
unfolding route_part_as
returns-then-is_fully_inside c = let a = c.args in
    let list = c.list_part.ensures in
    let e = c.if-not-intersects_bounds.false in rw (
      ← c.intersects_bounds.ensures,
      e,
      ← c.is_fully_inside.ensures,
      c.if-is_fully_inside.true,
      list.0,
      list.1,
    ) (listed-part a.index [] a.before a.out.now unchanged)

pub list_part-requires-2 : goal.list_part-requires-2
list_part-requires-2 c = let a = c.args in
    let p = c.requires in (
      omega (
        arith,
        part-head a.part _ _ _ p.0,
        c.route_part-answer.auto.out,
      ),
      p.2,
    )

pub returns : goal.returns
unfolding route_part_as
returns c = let a = c.args in
    let list = c.list_part-2.ensures in
    let answer = c.route_part-answer.ensures in
    let e = c.if-not-intersects_bounds.false in
    let part = part_at a.part.frame.now a.part.at in
    let to = route_measured a.flags a.rect a.bounds part in rw (
      ← c.intersects_bounds.ensures,
      e,
      ← c.is_fully_inside.ensures,
      c.if-is_fully_inside.false,
      list.0,
      list.1,
      answer.value,
      answer.out_after,
    ) (listed-part a.index (routed_origins to a.bounds part) a.before a.out.now to)
