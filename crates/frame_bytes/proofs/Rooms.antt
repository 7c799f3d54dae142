-- The room of an accepted frame: what is summed over rings and parts, and how large it gets. Assumes nothing.
use mathlib.Core.Path.{◌≡◌, refl, ◌∙◌}
use mathlib.Core.List.{List, [], ◌∷◌}
use Prim.Native.Nat.{ℕ, zero, suc, ◌+◌, ◌*◌, ◌-◌, ◌<◌, ◌≤◌}
use native.Mathlib.Nat.{suc-mul}
use native.Mathlib.Omega.{arith}
use lib.Dec.{ltb}
use lib.ListN.{length, drop, length-drop}
use borrow.Author.Tests.{ltb-false}
use Rattle.tile.specs.declared.Coord.{Coord}
use Rattle.tile.specs.Ring.{close}
use Rattle.sutherland_hodgman.specs.Growth.{B, most_coordinates}
use Rattle.sutherland_hodgman.proofs.Offered.{B-le}
use Rattle.std.specs.Prelude.{Err}
use Rattle.rings.specs.LentRings.{total, ring_room}
use Rattle.frame_bytes.specs.declared.reader.FrameRefusal.{FrameRefusal}
use Rattle.frame_bytes.specs.declared.reader.FrameRefusal.TheVariants.{Output}
use Rattle.frame_bytes.specs.declared.room.MeasuredRoom.{MeasuredRoom}
use Rattle.frame_bytes.specs.Frame.{Reading, refused, read, refused_if, and_then, read_many, count_of, coords_of, read_ring, read_part}
use Rattle.frame_bytes.specs.Frame.{Frame, read_frame, head_bytes, part_count_of, most_parts, most_in_ring}
use Rattle.frame_bytes.specs.Internal.{check_of, Accepted, measured_room, frame_room}
use Rattle.frame_bytes.specs.Room.{part_room, output_room, answer_coord_size, least_room, read_call}
use Rattle.frame_bytes.proofs.Coordinates.{close_grows}
use Rattle.frame_bytes.proofs.Places.{step, ring-at, part-at}
use Rattle.frame_bytes.proofs.Readings.{both, not-refused, taken, Reads, many_first, many_length, ring-read, part-read, frame_read}

-- ---- summing over many

module _ {A : Type 0} (f : List ℕ → Reading A) (g : A → ℕ) (frame : List ℕ) where
  -- the room and the end of so many things from a place on
  abbrev pub left : ℕ → ℕ → MeasuredRoom
  left at k = measured_room (length frame) (total g) (read_many f k (drop at frame))

  -- the room so far, with the room of what is left, is the whole room
  pub record Summed (whole : MeasuredRoom) (sofar at k : ℕ) : Type 0 where
    pub within : at ≤ length frame
    pub accepted : Accepted (read_many f k (drop at frame))
    pub sum : whole.room ≡ sofar + (left at k).room
    pub end : whole.next ≡ (left at k).next

  pub sum-here : (at k : ℕ) → 0 < k → Accepted (read_many f k (drop at frame)) → Accepted (f (drop at frame))
  sum-here at zero h a = absurd (omega arith)
  sum-here at (suc k) h a =
      let t = taken (read_many f (suc k) (drop at frame)) a in
      let p = many_first f k (drop at frame) t.value t.rest t.is in
      rw p.first

  pub sum_step : Reads f → (whole : MeasuredRoom) (sofar at k : ℕ) (one : MeasuredRoom) → 0 < k → one ≡ measured_room (length frame) g
      (f (drop at frame)) → Summed whole sofar at k
      → Summed whole (sofar + one.room) one.next (k - 1)
  unfolding total
  sum_step reads whole sofar at k one h o s =
      let t = taken (read_many f k (drop at frame)) s.accepted in
      let p = step f reads frame at k t.value t.rest s.within h t.is in
      go t.value t.rest p.value p.others p.next p.within t.is p.first p.later p.whole
    where
      go : (all : List A) (rest : List ℕ) (a : A) (others : List A) (next : ℕ) → next ≤ length frame → read_many f k (drop at frame)
          ≡ read all rest → f (drop at frame) ≡ read a (drop next frame)
          → read_many f (k - 1) (drop next frame) ≡ read others rest → all ≡ a ∷ others → Summed whole (sofar + one.room)
          one.next (k - 1)
      go all rest a others next within is first later parts =
          let n : length frame - length (drop next frame) ≡ next = omega (arith, length-drop next frame) in
          let here : one ≡ record { room = g a; next = next } = o ∙ rw (first, n) in
          let now : left at k ≡ record { room = g a + total g others; next = length frame - length rest } = rw (is, parts) in
          rw here record {
            within = within;
            accepted = rw later;
            sum = rw later (s.sum ∙ rw now (omega arith));
            end = rw later (s.end ∙ rw now);
          }

  pub sum_end : (whole : MeasuredRoom) (sofar at k : ℕ) → k ≤ 0 → Summed whole sofar at k → whole ≡ record { room = sofar; next = at }
  unfolding total read_many
  sum_end whole sofar at (suc k) h s = absurd (omega arith)
  sum_end whole sofar at zero h s =
      let r : whole.room ≡ sofar = s.sum ∙ omega arith in
      let n : whole.next ≡ at = s.end ∙ (let w = s.within in omega (arith, length-drop at frame)) in
      let e : ◌≡◌ {A = MeasuredRoom} (record { room = whole.room; next = whole.next }) (record { room = sofar; next = at }) = cc in
      e

  -- no more than so much for each
  pub sum-le : (most : ℕ) → ((l : List ℕ) (a : A) (rest : List ℕ) → f l ≡ read a rest → g a ≤ most)
      → (k : ℕ) (l : List ℕ) (all : List A) (rest : List ℕ) → read_many f k l ≡ read all rest → total g all ≤ k * most
  unfolding total read_many
  sum-le most each zero l all rest e = let n : [] ≡ all = cc in rw (← n) (omega arith)
  sum-le most each (suc k) l all rest e =
      let p = many_first f k l all rest e in
      let h = each l p.value p.between p.first in
      let r = sum-le most each k p.between p.others rest p.later in
      rw p.whole (omega (arith, suc-mul k most))

-- ---- a ring

pub closed-few : (n : ℕ) (l : List ℕ) → n ≤ most_in_ring → length (close (coords_of n l)) ≤ most_coordinates
closed-few n l h = omega (arith, close_grows n l)

-- more than the room of any ring, in coordinates, and of any part, in bytes
abbrev pub most_ring : ℕ
most_ring = 524288

abbrev pub most_part : ℕ
most_part = 1073741824

ring-le : (l : List ℕ) (ring : List Coord) (rest : List ℕ) → read_ring l ≡ read ring rest → ring_room ring ≤ most_ring
ring-le l ring rest e =
    let p = ring-read l ring rest e in
    let m = B-le (length (close (coords_of (count_of l) (drop 2 l)))) (closed-few (count_of l) (drop 2 l) p.few) in
    rw p.coordinates (omega (arith, m))

module _ (frame : List ℕ) (at : ℕ) (h : at ≤ length frame) (a : Accepted (read_ring (drop at frame))) where
  pub ring-fits : at + 2 + 16 * count_of (drop at frame) ≤ length frame
  ring-fits = let t = taken (read_ring (drop at frame)) a in (ring-at frame at t.value t.rest h t.is).whole

  pub ring-few : count_of (drop at frame) ≤ most_in_ring
  ring-few = let t = taken (read_ring (drop at frame)) a in (ring-at frame at t.value t.rest h t.is).few

  pub ring-passed : measured_room (length frame) ring_room (read_ring (drop at frame))
      ≡ record {
        room = B (length (close (coords_of (count_of (drop at frame)) (drop (at + 2) frame))));
        next = at + 2 + 16 * count_of
            (drop at frame);
      }
  ring-passed = let t = taken (read_ring (drop at frame)) a in go t.value t.rest t.is
    where
      go : (ring : List Coord) (rest : List ℕ) → read_ring (drop at frame) ≡ read ring rest → measured_room (length frame) ring_room
          (read_ring (drop at frame))
          ≡ record {
            room = B (length (close (coords_of (count_of (drop at frame)) (drop (at + 2) frame))));
            next = at + 2 + 16 * count_of
                (drop at frame);
          }
      go ring rest e =
          let p = ring-at frame at ring rest h e in
          let w = p.whole in
          let n : length frame - length rest ≡ at + 2 + 16 * count_of (drop at frame) =
          rw p.follows (omega (arith, length-drop (at + 2 + 16 * count_of (drop at frame)) frame)) in
          rw (e, n, p.coordinates)

-- ---- the rings of a part

pub rings-le : (size k : ℕ) (l : List ℕ) → Accepted (read_many read_ring k l) → (measured_room size (total ring_room)
    (read_many read_ring k l)).room ≤ k * most_ring
rings-le size k l a =
    let t = taken (read_many read_ring k l) a in rw t.is (sum-le read_ring ring_room [] most_ring ring-le k l t.value t.rest t.is)

part-le : (l : List ℕ) (part : List (List Coord)) (rest : List ℕ) → read_part l ≡ read part rest → part_room answer_coord_size part ≤ most_part
unfolding part_room
part-le l part rest e =
    let p = part-read l part rest e in
    let few = p.few in
    let n = many_length read_ring (count_of l) (drop 2 l) part rest p.rings in
    omega (arith, sum-le read_ring ring_room [] most_ring ring-le (count_of l) (drop 2 l) part rest p.rings)

module _ (frame : List ℕ) (at : ℕ) (h : at ≤ length frame) (a : Accepted (read_part (drop at frame))) where
  pub part-passed : (rings : MeasuredRoom) → rings ≡ measured_room (length frame) (total ring_room)
      (read_many read_ring (count_of (drop at frame)) (drop (at + 2) frame))
      → measured_room (length frame) (part_room answer_coord_size) (read_part (drop at frame)) ≡ record
      { room = 6 + 2 * count_of (drop at frame) + answer_coord_size * rings.room; next = rings.next }
  unfolding part_room
  part-passed rings r = let t = taken (read_part (drop at frame)) a in go t.value t.rest t.is
    where
      go : (part : List (List Coord)) (rest : List ℕ) → read_part (drop at frame) ≡ read part rest
          → measured_room (length frame) (part_room answer_coord_size) (read_part (drop at frame)) ≡ record
          { room = 6 + 2 * count_of (drop at frame) + answer_coord_size * rings.room; next = rings.next }
      go part rest e =
          let p = part-at frame at part rest h e in
          let n = many_length read_ring (count_of (drop at frame)) (drop (at + 2) frame) part rest p.rings in
          rw (r, p.rings, e, n)

-- ---- the parts of a frame

pub parts-le : (size k : ℕ) (l : List ℕ) → Accepted (read_many read_part k l) → (measured_room size (total (part_room answer_coord_size))
    (read_many read_part k l)).room ≤ k * most_part
parts-le size k l a =
    let t = taken (read_many read_part k l) a in rw t.is (sum-le read_part (part_room answer_coord_size) [] most_part part-le k l t.value
    t.rest t.is)

module _ (frame : List ℕ) (a : Accepted (read_frame frame)) where
  pub frame_head : head_bytes ≤ length frame
  frame_head = let t = taken (read_frame frame) a in (frame_read frame t.value t.rest t.is).short

  pub frame_few : part_count_of frame ≤ most_parts
  frame_few = let t = taken (read_frame frame) a in (frame_read frame t.value t.rest t.is).few

  pub frame_parts : Accepted (read_many read_part (part_count_of frame) (drop head_bytes frame))
  frame_parts = let t = taken (read_frame frame) a in rw (frame_read frame t.value t.rest t.is).parts

  pub frame_passed : frame_room answer_coord_size (read_frame frame) ≡ least_room + (measured_room (length frame)
      (total (part_room answer_coord_size)) (read_many read_part (part_count_of frame) (drop head_bytes frame))).room
  unfolding output_room
  frame_passed = let t = taken (read_frame frame) a in go t.value t.rest t.is
    where
      go : (f : Frame) (rest : List ℕ) → read_frame frame ≡ read f rest
          → frame_room answer_coord_size (read_frame frame) ≡ least_room + (measured_room (length frame) (total (part_room answer_coord_size))
          (read_many read_part (part_count_of frame) (drop head_bytes frame))).room
      go f rest e = rw (e, (frame_read frame f rest e).parts)

-- ---- a frame call

module _ (l : List ℕ) (out : ℕ) where
  pub call-refused : (r : FrameRefusal) → check_of (read_frame l) ≡ Err r → check_of (read_call l out) ≡ Err r
  unfolding read_call
  call-refused r e = go (read_frame l) e
    where
      go : (x : Reading Frame) → check_of x ≡ Err r
          → check_of (and_then x (λ f rest. refused_if (ltb out (output_room answer_coord_size f.parts)) Output (read f rest))) ≡ Err r
      go (refused s) e = cc
      go (read f rest) e = absurd (let z : ◌≡◌ {A = ℕ} 0 1 = cc in omega arith)

  -- an accepted frame: whether the output is too small
  pub call-room : Accepted (read_frame l) → check_of (read_call l out) ≡ check_of
      (refused_if (ltb out (frame_room answer_coord_size (read_frame l))) Output (read_frame l))
  unfolding read_call
  call-room a = let t = taken (read_frame l) a in rw t.is

-- what a frame call that is not refused reads
pub call-read : (l : List ℕ) (out : ℕ) (f : Frame) (rest : List ℕ) → read_call l out ≡ read f rest → (read_frame l ≡ read f rest)
    × (output_room answer_coord_size f.parts ≤ out)
unfolding read_call
call-read l out f rest e =
    let p = both (read_frame l) _ f rest e in
    let q = not-refused (ltb out (output_room answer_coord_size p.value.parts)) Output _ f rest p.second in
    let first = p.first in
    let second = q.1 in
    let same : p.value ≡ f = cc in
    (cc, rw (← same) (ltb-false out (output_room answer_coord_size p.value.parts) q.0))

pub refused-room : (coordinate : ℕ) (x : Reading Frame) (r : FrameRefusal) → check_of x ≡ Err r → frame_room coordinate x ≡ 0
refused-room coordinate (refused s) r e = refl
refused-room coordinate (read f rest) r e = absurd (let z : ◌≡◌ {A = ℕ} 0 1 = cc in omega arith)
