-- `list_parts` meets its contract. The invariant: the parts that are left are there and have room, and what is listed with what is left to
-- list is all that was to be listed. Assumes nothing.
use mathlib.Core.Path.{◌≡◌, ◌∙◌, ap}
use Prim.Native.Nat.{◌+◌, ◌-◌, ◌<◌}
use native.Mathlib.Numerals.{add-one}
use native.Mathlib.Omega.{arith}
use Rattle.rings.specs.Rectangle.{rectangle}
use Rattle.frame_bytes.specs.Internal.{part_at}
use Rattle.frame_parts.proofs.Cutting.{same-lengths}
use Rattle.frames.specs.Internal.{part_as, Lists, listing_of}
use Rattle.frames.proofs.Listings.{parts_then, parts-one, parts_none, part_next, part_room_lem, positions-room}
use Rattle.frames.proofs.Listings.{parts-room, listing_here, same-parts-room, parts_end, few_next}
use Rattle.frames.proofs.parts.list_parts.Goals as goal

pub invariant_of-part : goal.invariant_of-part
invariant_of-part c = let a = c.args in
    let l = c.loop-i in record {
      within = l.invariant.0.within;
      accepted =
          (part_next a.flags a.bounds a.frame.now l.at (a.parts - l.i) _ _ _ _ (omega (arith, c.loop-i-test.true)) l.invariant.0).accepted;
    }

pub add_part-listing-requires : goal.add_part-listing-requires
add_part-listing-requires c = let a = c.args in
    let l = c.loop-i in
    let k : 0 < a.parts - l.i = omega (arith, c.loop-i-test.true) in (
      part_room_lem a.flags a.bounds a.frame.now l.at (a.parts - l.i) _ _ _ _ k l.invariant.0,
      positions-room a.flags a.bounds a.frame.now l.at (a.parts - l.i) _ _ _ _ k l.invariant.0,
      l.invariant.1,
    )

pub loop-i-preserved : goal.loop-i-preserved
loop-i-preserved c = let a = c.args in
    let f = c.args.frame.now in
    let l = c.loop-i in
    let h = c.loop-i-test.true in
    let k : 0 < a.parts - l.i = omega arith in
    let next = part_next a.flags a.bounds f l.at (a.parts - l.i) _ _ _ _ k l.invariant.0 in
    let rect = ap (λ m. m.rect) c.part_rect-measured.ensures ∙ next.rect in
    let place = ap (λ m. m.next) c.part_rect-measured.ensures in
    let add = c.add_part-listing in
    let lists : Lists (listing_of (part_as l.i a.flags (rectangle (part_at f l.at)) a.bounds (part_at f l.at))) _ _ _ _
    = rw rect at add.ensures in
    let less : a.parts - (l.i + 1) ≡ a.parts - l.i - 1 = omega arith in
    let room = parts-room a.flags a.bounds f l.at (a.parts - l.i) _ _ _ _ k l.invariant.0 l.i
    (rectangle (part_at f l.at)) _ lists.next_after in
    let kept = c.add_part-listing.auto.ring in
    let kr = c.add_part-listing.auto.ring in
    let ka = c.add_part-listing.auto.a in
    let kao = c.add_part-listing.auto.a_origins in
    let kb = c.add_part-listing.auto.b in
    let kbo = c.add_part-listing.auto.b_origins in
    let ko = c.add_part-listing.auto.order in
    let ku = c.add_part-listing.auto.out in (
      rw (place, less) (same-parts-room (same-lengths kr ka kao kb kbo) ko ku room),
      rw add-one (few_next l.i (part_as l.i a.flags (rectangle (part_at f l.at)) a.bounds (part_at f l.at)) _ _ _ _ l.invariant.1
          (omega (
            arith,
            c.requires.1,
          )) lists),
      omega arith,
      rw (place, less, add-one) (parts_then (rw (listing_here a.flags a.bounds f l.at (a.parts - l.i) _ _ _ _ k
          l.invariant.0 l.i) at l.invariant.3) (parts-one
          (part_as l.i a.flags (rectangle (part_at f l.at)) a.bounds (part_at f l.at)) _ _ _ _ _ lists)),
      kr ∙ l.invariant.4,
      ka ∙ l.invariant.5,
      kao ∙ l.invariant.6,
      kb ∙ l.invariant.7,
      kbo ∙ l.invariant.8,
      ko ∙ l.invariant.9,
      ku ∙ l.invariant.10,
    )

pub returns : goal.returns
returns c = let a = c.args in
    let l = c.loop-i in parts_none a.flags a.bounds l.i _ _ _ _ _
    (rw (parts_end a.frame.now l.at (a.parts - l.i) (omega (arith, c.loop-i-test.false))) at l.invariant.3)
