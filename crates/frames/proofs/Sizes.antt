-- The rings of an accepted frame are short for its size, and where its rectangle is finite closing closes them all: so the working slices
-- of a size have room for every part. Assumes nothing.
use mathlib.Core.Path.{◌≡◌, refl, sym, ◌∙◌, ap, subst}
use mathlib.Core.Bool.{true}
use mathlib.Core.List.{List, ◌∷◌}
use Prim.Native.Nat.{ℕ, zero, suc, ◌+◌, ◌*◌, ◌-◌, ◌/◌, ◌≤◌}
use native.Mathlib.Omega.{arith}
use lib.ListN.{length, drop}
use Rattle.binary64.specs.Lists.{Every}
use Rattle.tile.specs.declared.Coord.{Coord}
use Rattle.tile.specs.Ring.{close}
use Rattle.sutherland_hodgman.specs.Growth.{B}
use Rattle.sutherland_hodgman.proofs.Offered.{B-mono, B-le}
use Rattle.rings.specs.declared.rectangle.Rect.{Rect}
use Rattle.rings.specs.declared.rectangle.Rect.TheVariants as Rects
use Rattle.rings.specs.Rectangle.{with_ring, with_rings, with_parts}
use Rattle.rings.specs.LentRings.{largest}
use Rattle.rings.specs.Internal.{all_closed}
use Rattle.rings.proofs.Closing.{stays_parts, ring-closed}
use Rattle.rings.proofs.LentRings.{larger-most}
use Rattle.frame_bytes.specs.Internal.{Accepted, rings_from, part_at}
use Rattle.frame_bytes.specs.Frame.{most_in_ring, count_of, coords_of, read_ring, read_many, read_part}
use Rattle.frame_bytes.proofs.Coordinates.{close_grows}
use Rattle.frame_bytes.proofs.Rooms.{most_ring}
use Rattle.frame_bytes.proofs.PartRings.{next_ring, part-rings}
use Rattle.frame_parts.specs.Internal.{Lengths}
use Rattle.frames.specs.Internal.{Workable, parts_from, RoomFor}
use Rattle.frames.proofs.Listings.{next_place, next_part}

-- working slices of these lengths, and that many positions, are enough for a ring of m coordinates
pub record Enough (m : ℕ) (lent : Lengths) (order : ℕ) : Type 0 where
  pub small : m ≤ most_in_ring + 1
  pub ring : 2 * m ≤ lent.ring
  pub a : 2 * B m ≤ lent.a
  pub a-origins : B m ≤ lent.a-origins
  pub b : 2 * B m ≤ lent.b
  pub b-origins : B m ≤ lent.b-origins
  pub positions : B m ≤ order

pub enough : (size ring work origins : ℕ) (lent : Lengths) (order : ℕ) → RoomFor size ring work origins → lent.ring ≡ ring → lent.a ≡ work
    → lent.a-origins ≡ origins → lent.b ≡ work → lent.b-origins ≡ origins → order ≡ origins → Enough (ring / 2) lent order
enough size ring work origins lent order r er ea eao eb ebo eo = record {
  small = r.small;
  ring = omega (arith, er);
  a = omega (arith, ea, r.work-room, r.origin-room);
  a-origins = omega (arith, eao, r.origin-room);
  b = omega (arith, eb, r.work-room, r.origin-room);
  b-origins = omega (arith, ebo, r.origin-room);
  positions = omega (arith, eo, r.origin-room);
}

-- such arrays are no larger than a slice may be
pub few_work : (size ring work origins : ℕ) → RoomFor size ring work origins → work ≤ 2 * most_ring
few_work size ring work origins r = omega (arith, r.work-room, r.origin-room, B-le (ring / 2) (omega (arith, r.small)))

pub few_origins : (size ring work origins : ℕ) → RoomFor size ring work origins → origins ≤ most_ring
few_origins size ring work origins r = omega (arith, r.origin-room, B-le (ring / 2) (omega (arith, r.small)))

-- m coordinates, closed, are the most that a ring can have behind the head and two counts
module _ (frame : List ℕ) (m : ℕ) (small : length frame ≤ 47 + 16 * m) where
  -- rings that are short, and closed
  record Rings (rings : List (List Coord)) : Type 0 where
    short : largest length rings ≤ m
    closes : all_closed rings ≡ true

  rings_fit : (k at : ℕ) (r : Rect) → 46 ≤ at → at ≤ length frame → Accepted (read_many read_ring k (drop at frame))
      → (with_rings r (rings_from frame at k) ≡ Rects.NotFinite → ⊥) → Rings (rings_from frame at k)
  unfolding read_many largest with_rings all_closed
  rings_fit zero at r h w a q = record { short = omega arith; closes = refl }
  rings_fit (suc k) at r h w a q =
      let n = next_ring frame at (suc k) w (omega arith) a in
      let p : suc k - 1 ≡ k = omega arith in
      let to = at + 2 + 16 * count_of (drop at frame) in
      let c = coords_of (count_of (drop at frame)) (drop (at + 2) frame) in
      let here : rings_from frame at (suc k) ≡ close c ∷ rings_from frame to k = n.here ∙ rw p in
      let q' : with_rings (with_ring r (close c)) (rings_from frame to k) ≡ Rects.NotFinite → ⊥ = λ z. q (ap (with_rings r) here ∙ z) in
      let later = rings_fit k to (with_ring r (close c)) (omega arith) n.whole
      (subst (λ (j : ℕ). Accepted (read_many read_ring j (drop to frame))) p n.later) q' in
      subst Rings (sym here) (record {
        short = larger-most m _ _ (omega (arith, n.whole, close_grows (count_of (drop at frame)) (drop (at + 2) frame))) later.short;
        closes = rw (ring-closed r c (rings_from frame to k) q', later.closes);
      })

  module _ (lent : Lengths) (order : ℕ) (enough : Enough m lent order) where
    workable : (rings : List (List Coord)) → Rings rings → Workable lent order rings
    workable rings r =
        let l = B-mono (largest length rings) m r.short in
        record {
          working =
              record {
                small = omega (arith, r.short, enough.small);
                closes = r.closes;
                ring-room = omega (arith, r.short, enough.ring);
                a-room = omega (arith, l, enough.a);
                a-origin-room = omega (arith, l, enough.a-origins);
                b-room = omega (arith, l, enough.b);
                b-origin-room = omega (arith, l, enough.b-origins);
              };
          positions = omega (arith, l, enough.positions);
        }

    pub parts_fit : (k at : ℕ) (r : Rect) → 44 ≤ at → at ≤ length frame → Accepted (read_many read_part k (drop at frame))
        → (with_parts r (parts_from frame at k) ≡ Rects.NotFinite → ⊥) → Every (Workable lent order) (parts_from frame at k)
    unfolding read_many with_parts
    parts_fit zero at r h w x q = tt
    parts_fit (suc k) at r h w x q =
        let n = next_part frame at (suc k) w (omega arith) x in
        let p : suc k - 1 ≡ k = omega arith in
        let to = next_place frame at in
        let here : parts_from frame at (suc k) ≡ part_at frame at ∷ parts_from frame to k = n.here ∙ rw p in
        let q' : with_parts (with_rings r (part_at frame at)) (parts_from frame to k) ≡ Rects.NotFinite
        → ⊥ = λ z. q (ap (with_parts r) here ∙ z) in
        let later = parts_fit k to (with_rings r (part_at frame at)) (omega (arith, n.forward)) n.within
        (subst (λ (j : ℕ). Accepted (read_many read_part j (drop to frame))) p n.later) q' in
        let rs = part-rings frame at w n.accepted in
        let finite : with_rings r (rings_from frame (at + 2) (count_of (drop at frame))) ≡ Rects.NotFinite
        → ⊥ = λ z. q' (rw (rs.same, z) (stays_parts (parts_from frame to k))) in
        let first = subst Rings (sym rs.same) (rings_fit (count_of (drop at frame)) (at + 2) r (omega arith) rs.whole
        rs.accepted finite) in
        subst (Every (Workable lent order)) (sym here) (workable (part_at frame at) first, later)
