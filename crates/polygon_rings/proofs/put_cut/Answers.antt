-- `put_cut` meets its contract: the exterior is counted where it stands, then the holes are put behind it, and their origins behind its
-- own. Assumes nothing.
use mathlib.Core.Path.{refl}
use Rattle.tile.specs.Ring.{coords, close}
use Rattle.polygon_rings.proofs.Holes.{behind_first, exterior-room, holes_room, same-room, cut_done, origins_done}
use Rattle.polygon_rings.proofs.put_cut.Goals as goal

pub count_ring-exterior-requires : goal.count_ring-exterior-requires
count_ring-exterior-requires c = let a = c.args in
    let p = c.requires in
    let first = behind_first c.next.result (λ x. close (coords x.now)) _ _ c.next.ensures.steps p.lent_cut_room.some in
    exterior-room a.bounds _ first.0 _ first.1 _ _ _ _ _ _ p.lent_cut_room p.lent_route_origin_room

pub put_holes-requires-clause-lent_rings_room : goal.put_holes-requires-clause-lent_rings_room
put_holes-requires-clause-lent_rings_room c = let a = c.args in
    let p = c.requires in
    let first = behind_first c.next.result (λ x. close (coords x.now)) _ _ c.next.ensures.steps p.lent_cut_room.some in
    let count = c.count_ring-exterior in
    let r = holes_room a.bounds _ first.0 _ first.1 _ _ _ _ _ _ p.lent_cut_room p.lent_route_origin_room _ count.result _ count.ensures in (same-room refl refl refl count.auto.out_lengths refl r).0

pub put_holes-requires-clause-lent_origins_room : goal.put_holes-requires-clause-lent_origins_room
put_holes-requires-clause-lent_origins_room c = let a = c.args in
    let p = c.requires in
    let first = behind_first c.next.result (λ x. close (coords x.now)) _ _ c.next.ensures.steps p.lent_cut_room.some in
    let count = c.count_ring-exterior in
    let r = holes_room a.bounds _ first.0 _ first.1 _ _ _ _ _ _ p.lent_cut_room p.lent_route_origin_room _ count.result _ count.ensures in (same-room refl refl refl count.auto.out_lengths refl r).1

pub returns-clause-count : goal.returns-clause-count
returns-clause-count c = let a = c.args in
    let p = c.requires in
    let first = behind_first c.next.result (λ x. close (coords x.now)) _ _ c.next.ensures.steps p.lent_cut_room.some in
    let count = c.count_ring-exterior in
    let holes = c.put_holes in
    let done = cut_done a.bounds _ first.0 _ first.1 _ _ _ _ _ _ p.lent_cut_room p.lent_route_origin_room _ _ _ _ _ _ refl count.ensures holes.ensures.rings in done.0

pub returns-clause-written : goal.returns-clause-written
returns-clause-written c = let a = c.args in
    let p = c.requires in
    let first = behind_first c.next.result (λ x. close (coords x.now)) _ _ c.next.ensures.steps p.lent_cut_room.some in
    let count = c.count_ring-exterior in
    let holes = c.put_holes in
    let done = cut_done a.bounds _ first.0 _ first.1 _ _ _ _ _ _ p.lent_cut_room p.lent_route_origin_room _ _ _ _ _ _ refl count.ensures holes.ensures.rings in done.1

pub returns-clause-origins : goal.returns-clause-origins
returns-clause-origins c = let a = c.args in
    let p = c.requires in
    let first = behind_first c.next.result (λ x. close (coords x.now)) _ _ c.next.ensures.steps p.lent_cut_room.some in
    let count = c.count_ring-exterior in
    let holes = c.put_holes in
    let done = cut_done a.bounds _ first.0 _ first.1 _ _ _ _ _ _ p.lent_cut_room p.lent_route_origin_room _ _ _ _ _ _ refl count.ensures holes.ensures.rings in
    origins_done a.bounds _ first.0 _ first.1 _ _ _ _ _ _ p.lent_cut_room p.lent_route_origin_room _ _ _ holes.result _ _ _ count.ensures done.1 holes.ensures.origins
