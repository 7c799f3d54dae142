-- `put_cut` meets its contract: the rings are written, then what stands before them. Assumes nothing.
use mathlib.Core.Path.{refl}
use mathlib.Core.List.{[]}
use native.Mathlib.Omega.{arith}
use Rattle.clip.specs.Polygon.{unless_none}
use Rattle.frame_bytes.specs.Internal.{part_at}
use Rattle.frame_bytes.proofs.PartRings.{part-rings, first_ring, exterior_at, holes_at}
use Rattle.frame_parts.specs.Internal.{exterior_vertices, holes_vertices, PutRings}
use Rattle.frame_parts.proofs.CutParts.{exterior_put, exterior-ring, holes_room, holes_few, all_put, part_length, part-written}
use Rattle.frame_parts.proofs.put_cut.Goals as goal

pub count_at-rings-requires : goal.count_at-rings-requires
count_at-rings-requires c = (part-rings c.args.part.frame.now c.args.part.at c.args.part.within c.args.part.accepted).whole

pub count_at-n-requires : goal.count_at-n-requires
count_at-n-requires c = omega (arith, (first_ring c.args.part.frame.now c.args.part.at c.args.part.within c.args.part.accepted).whole)

pub put_cut_ring-exterior-requires : goal.put_cut_ring-exterior-requires
put_cut_ring-exterior-requires c = let e = exterior_put c.args.bounds c.args.part c.args.m _ _ _ _ _ c.requires.part_room c.requires.exterior_stands in (e.0, e.1, omega (arith, e.2), omega arith)

pub overflow_sub-rings : goal.overflow_sub-rings
overflow_sub-rings c = omega (
  arith,
  (part-rings c.args.part.frame.now c.args.part.at c.args.part.within c.args.part.accepted).some,
  c.count_at-rings.ensures.0,
)

pub put_holes-all-requires : goal.put_holes-all-requires
put_holes-all-requires c = let f = c.args.part.frame.now in
    let put : PutRings (unless_none (exterior_vertices c.args.bounds (exterior_at f c.args.part.at)) []) _ _ _ _ =
    rw (exterior-ring c.args.bounds c.args.part c.args.m _ _ _ _ _ c.requires.part_room c.requires.exterior_stands)
    at c.put_cut_ring-exterior.ensures in
    let r = holes_room c.args.bounds c.args.part c.args.m _ _ c.args.to _ _ c.requires.part_room c.requires.exterior_stands _ _ _ _ put
    (omega arith) refl in rw (
      c.count_at-n.ensures.0,
      c.count_at-rings.ensures.0,
      c.put_cut_ring-exterior.auto.out,
    ) (
      r,
      holes_few c.args.bounds c.args.part c.args.m _ _ c.args.to _ _ c.requires.part_room c.requires.exterior_stands _ _ _ _ put (omega arith) refl,
    )

pub put_part-requires : goal.put_part-requires
put_part-requires c = omega (
  arith,
  (exterior_put c.args.bounds c.args.part c.args.m _ _ _ _ _ c.requires.part_room c.requires.exterior_stands).2,
  c.put_holes-all.auto.out,
  c.put_cut_ring-exterior.auto.out,
)

pub put_count-requires : goal.put_count-requires
put_count-requires c = omega (
  arith,
  (exterior_put c.args.bounds c.args.part c.args.m _ _ _ _ _ c.requires.part_room c.requires.exterior_stands).2,
  c.put_part.auto.out,
  c.put_holes-all.auto.out,
  c.put_cut_ring-exterior.auto.out,
)

pub returns-clause-value : goal.returns-clause-value
returns-clause-value c = let f = c.args.part.frame.now in
    let put : PutRings (unless_none (exterior_vertices c.args.bounds (exterior_at f c.args.part.at)) []) _ _ _ _ =
    rw (exterior-ring c.args.bounds c.args.part c.args.m _ _ _ _ _ c.requires.part_room c.requires.exterior_stands)
    at c.put_cut_ring-exterior.ensures in
    let holes : PutRings (holes_vertices c.args.bounds (holes_at f c.args.part.at)) _ _ _ _ =
    rw (
      c.count_at-n.ensures.0,
      c.count_at-rings.ensures.0,
    ) at c.put_holes-all.ensures in
    let all = all_put c.args.bounds c.args.part c.args.m _ _ c.args.to _ _ c.requires.part_room c.requires.exterior_stands _ _ _ _ put
    (omega arith) refl _ _ holes in part_length c.args.index c.args.bounds (part_at f c.args.part.at) c.args.to _ _ _ _ all (omega arith)

pub returns-clause-out_after : goal.returns-clause-out_after
returns-clause-out_after c = let f = c.args.part.frame.now in
    let put : PutRings (unless_none (exterior_vertices c.args.bounds (exterior_at f c.args.part.at)) []) _ _ _ _ =
    rw (exterior-ring c.args.bounds c.args.part c.args.m _ _ _ _ _ c.requires.part_room c.requires.exterior_stands)
    at c.put_cut_ring-exterior.ensures in
    let holes : PutRings (holes_vertices c.args.bounds (holes_at f c.args.part.at)) _ _ _ _ =
    rw (
      c.count_at-n.ensures.0,
      c.count_at-rings.ensures.0,
    ) at c.put_holes-all.ensures in
    let all = all_put c.args.bounds c.args.part c.args.m _ _ c.args.to _ _ c.requires.part_room c.requires.exterior_stands _ _ _ _ put
    (omega arith) refl _ _ holes in part-written c.args.index c.args.bounds (part_at f c.args.part.at) c.args.to _ _ _ _ all (omega arith) _ _ refl
    c.put_part.ensures c.put_count.ensures
