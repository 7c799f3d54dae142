-- The most room that an accepted frame asks for: an output of 56,259 bytes is enough for every frame. Assumes nothing.
--
-- A frame of 5,120 bytes has 5,076 behind its head: two for each part and each ring, and sixteen for each coordinate; an answer has
-- eighteen for each. Closing adds at most one coordinate to a ring that has any. So what a frame asks for is bounded by how many parts, rings
-- and coordinates it has, and these by its bytes.
use mathlib.Core.Path.{◌≡◌, refl, ap}
use mathlib.Core.Bool.{Bool, true, false}
use mathlib.Core.List.{List, [], ◌∷◌}
use Prim.Native.Nat.{ℕ, zero, suc, ◌+◌, ◌*◌, ◌≤◌}
use native.Mathlib.Nat.{suc-mul}
use native.Mathlib.Omega.{arith}
use lib.Dec.{ltb}
use lib.ListN.{length, drop, length-drop}
use borrow.Author.Tests.{ltb-true, ltb-false, le-ltb}
use Rattle.tile.specs.declared.Coord.{Coord}
use Rattle.tile.specs.Ring.{close}
use Rattle.sutherland_hodgman.proofs.Offered.{B-mono, B-none, B-closed}
use Rattle.rings.specs.LentRings.{most_rings, total, ring_room}
use Rattle.frame_bytes.specs.Frame.{longest, head_bytes, Reading, refused, read, read_many, count_of, coords_of}
use Rattle.frame_bytes.specs.Frame.{read_ring, read_part, Frame, part_count_of, read_frame}
use Rattle.frame_bytes.specs.Room.{least_room, answer_coord_size, part_room, output_room, read_call}
use Rattle.frame_bytes.proofs.Coordinates.{close_grows}
use Rattle.frame_bytes.proofs.Places.{no_more}
use Rattle.frame_bytes.proofs.Readings.{many_first, ring-read, part-read, frame_read}

-- the most output that an accepted frame asks for: with this much no frame is refused by 22
abbrev pub most_room : ℕ
most_room = 56259

-- What is counted in bytes that were read, where so many of them are left: the rings with coordinates and those without, and the
-- coordinates as they are lent. The room that they ask for is bounded by them.
record Counted (parts rings asked bytes left : ℕ) : Type 0 where
  full : ℕ
  empty : ℕ
  coordinates : ℕ
  some : full ≤ coordinates
  few : full + empty ≤ rings
  lent : bytes ≡ left + 2 * parts + 2 * (full + empty) + 16 * coordinates
  enough : asked ≤ 6 * parts + 2 * (full + empty) + answer_coord_size * (5 * full + 6 * coordinates)

-- ---- of many things, where it is known of each

module _ {A : Type 0} (f : List ℕ → Reading A) (g : A → ℕ) (parts rings : ℕ) where
  abbrev Each : Type 0
  Each = (l : List ℕ) (a : A) (rest : List ℕ) → f l ≡ read a rest → Counted parts rings (g a) (length l) (length rest)

  many_counted : Each → (k : ℕ) (l : List ℕ) (all : List A) (rest : List ℕ) → read_many f k l ≡ read all rest
      → Counted (k * parts) (k * rings) (total g all) (length l) (length rest)
  unfolding total
  many_counted each zero l all rest e =
      let n = no_more f zero l all rest (omega arith) e in
      rw (n.0, n.1)
      record { full = 0; empty = 0; coordinates = 0; some = omega arith; few = omega arith; lent = omega arith; enough = omega arith }
  many_counted each (suc k) l all rest e =
      let h = many_first f k l all rest e in
      let one = each l h.value h.between h.first in
      let more = many_counted each k h.between h.others rest h.later in
      rw h.whole
      record {
        full = one.full + more.full;
        empty = one.empty + more.empty;
        coordinates = one.coordinates + more.coordinates;
        some = omega (arith, one.some, more.some);
        few = omega (arith, one.few, more.few, suc-mul k rings);
        lent = omega (arith, one.lent, more.lent, suc-mul k parts);
        enough = omega (arith, one.enough, more.enough, suc-mul k parts);
      }

-- ---- a ring

-- "2 × rings + 16 × its sum of B", with 18 for 16: what a ring adds
of_ring : List Coord → ℕ
of_ring ring = 2 + answer_coord_size * ring_room ring

rings-sum : (rings : List (List Coord)) → total of_ring rings ≡ 2 * length rings + answer_coord_size * total ring_room rings
unfolding total of_ring
rings-sum [] = refl
rings-sum (ring ∷ rings) = omega (arith, rings-sum rings)

closed_none : (n : ℕ) (l : List ℕ) → n ≡ 0 → length (close (coords_of n l)) ≡ 0
unfolding coords_of close
closed_none zero l e = refl
closed_none (suc n) l e = omega arith

ring-counted : (l : List ℕ) (ring : List Coord) (rest : List ℕ) → read_ring l ≡ read ring rest
    → Counted 0 1 (of_ring ring) (length l) (length rest)
unfolding of_ring
ring-counted l ring rest e = by_count (count_of l) refl
  where
    by_count : (n : ℕ) → count_of l ≡ n → Counted 0 1 (2 + answer_coord_size * ring_room ring) (length l) (length rest)
    by_count zero c =
        let r = ring-read l ring rest e in
        let none : length ring ≡ 0 = rw r.coordinates (closed_none (count_of l) (drop 2 l) c) in
        record {
          full = 0;
          empty = 1;
          coordinates = 0;
          some = omega arith;
          few = omega arith;
          lent = omega (arith, c, r.whole, ap length r.follows, length-drop (2 + 16 * count_of l) l);
          enough = rw none (omega (arith, B-none));
        }
    by_count (suc n) c =
        let r = ring-read l ring rest e in
        let m : length ring ≤ suc n + 1 = rw r.coordinates (omega (arith, c, close_grows (count_of l) (drop 2 l))) in
        record {
          full = 1;
          empty = 0;
          coordinates = suc n;
          some = omega arith;
          few = omega arith;
          lent = omega (arith, c, r.whole, ap length r.follows, length-drop (2 + 16 * count_of l) l);
          enough = omega (arith, B-mono (length ring) (suc n + 1) m, B-closed (suc n) (omega arith));
        }

-- ---- a part, a frame

part-counted : (l : List ℕ) (part : List (List Coord)) (rest : List ℕ) → read_part l ≡ read part rest
    → Counted 1 most_rings (part_room answer_coord_size part) (length l) (length rest)
unfolding part_room
part-counted l part rest e =
    let p = part-read l part rest e in
    let c = many_counted read_ring of_ring 0 1 ring-counted (count_of l) (drop 2 l) part rest p.rings in
    record {
      full = c.full;
      empty = c.empty;
      coordinates = c.coordinates;
      some = c.some;
      few = omega (arith, c.few, p.few);
      lent = omega (arith, c.lent, p.whole, length-drop 2 l);
      enough = omega (arith, c.enough, rings-sum part);
    }

-- The most that is asked for by what has room in a frame. With few coordinates there are few rings that have any, and others ask for
-- little; with many, each takes the bytes of eight rings; and a single part has few rings.
most : (parts asked bytes left : ℕ) → head_bytes + bytes ≤ longest → Counted parts (parts * most_rings) asked bytes left
    → least_room + asked ≤ most_room
most parts asked bytes left h c = by-coordinates (ltb c.coordinates 282) refl
  where
    by-coordinates : (t : Bool) → ltb c.coordinates 282 ≡ t → least_room + asked ≤ most_room
    by-coordinates true e = omega (arith, ltb-true c.coordinates 282 e, c.some, c.lent, c.enough)
    by-coordinates false e = by_parts parts refl
      where
        by_parts : (k : ℕ) → parts ≡ k → least_room + asked ≤ most_room
        by_parts zero p = omega (arith, p, c.few, c.lent, c.enough)
        by_parts (suc zero) p = omega (arith, p, c.few, c.lent, c.enough)
        by_parts (suc (suc k)) p = omega (arith, p, ltb-false c.coordinates 282 e, c.lent, c.enough)

pub frame_most : (l : List ℕ) (f : Frame) (rest : List ℕ) → read_frame l ≡ read f rest
    → output_room answer_coord_size f.parts ≤ most_room
unfolding output_room
frame_most l f rest e =
    let r = frame_read l f rest e in
    let c =
    many_counted read_part (part_room answer_coord_size) 1 most_rings part-counted (part_count_of l) (drop head_bytes l) f.parts rest
    r.parts in
    let one : part_count_of l * 1 ≡ part_count_of l = omega arith in
    most (part_count_of l) (total (part_room answer_coord_size) f.parts) (length (drop head_bytes l)) (length rest)
    (omega (arith, r.short, r.long, length-drop head_bytes l)) (rw one at c)

-- 22 does not arise where the output has that room
pub has_room : (l : List ℕ) (out : ℕ) → most_room ≤ out → read_call l out ≡ read_frame l
unfolding read_call
has_room l out h = by_reading (read_frame l) refl
  where
    by_reading : (x : Reading Frame) → read_frame l ≡ x → read_call l out ≡ x
    by_reading (refused r) e = rw e
    by_reading (read f rest) e =
        let enough : output_room answer_coord_size f.parts ≤ out = omega (arith, h, frame_most l f rest e) in
        rw (e, le-ltb out (output_room answer_coord_size f.parts) enough)
