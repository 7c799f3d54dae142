-- Reading from the front of bytes: what a count, a ring, a part and a frame that are read hold, and that what follows is a tail of the
-- bytes. Assumes nothing.
use mathlib.Core.Path.{◌≡◌, refl, sym, ◌∙◌, ap, ap₂}
use mathlib.Core.Bool.{Bool, true, false, not, ◌&&◌}
use mathlib.Core.List.{List, [], ◌∷◌}
use Prim.Native.Nat.{ℕ, zero, suc, ◌+◌, ◌*◌, ◌-◌, ◌<◌, ◌≤◌}
use native.Mathlib.Omega.{arith}
use lib.Dec.{ltb, eqb}
use lib.ListN.{length, drop, length-drop}
use lib.Seq.{drop-drop}
use borrow.Author.Tests.{ltb-false, eqb-false}
use Rattle.binary64.specs.Lists.{Every}
use Rattle.binary64.proofs.Booleans.{neither}
use Rattle.tile.specs.declared.Coord.{Coord}
use Rattle.tile.specs.Ring.{close}
use Rattle.rings.specs.LentRings.{most_rings}
use Rattle.frame_bytes.specs.declared.reader.FrameRefusal.{FrameRefusal}
use Rattle.frame_bytes.specs.declared.reader.FrameRefusal.TheVariants.{Size, Kind, FlagBits, PartCount, Truncated, RingCount}
use Rattle.frame_bytes.specs.declared.reader.FrameRefusal.TheVariants.{CoordinateCount, Trailing}
use Rattle.frame_bytes.specs.Frame.{Reading, refused, read, refused_if, and_then, read_many, count_of, coords_of, read_count, read_coords}
use Rattle.frame_bytes.specs.Frame.{read_ring, read_part, wrong_ring_count, most_in_ring, longest, most_flags, most_parts}
use Rattle.frame_bytes.specs.Frame.{head_bytes, polygon_kind, read_parts, Frame, kind_of, flags_byte, part_count_of, head_of, wrong_size}
use Rattle.frame_bytes.specs.Frame.{wrong_kind, wrong_part_count, read_frame}
use Rattle.frame_bytes.specs.Internal.{Accepted}

-- ---- one after the other

-- a reading in two steps that is not refused
pub record Both {A B : Type 0} (x : Reading A) (next : A → List ℕ → Reading B) (y : Reading B) : Type 0 where
  pub value : A
  pub rest : List ℕ
  pub first : x ≡ read value rest
  pub second : next value rest ≡ y

pub both : {A B : Type 0} (x : Reading A) (next : A → List ℕ → Reading B) (b : B) (rest : List ℕ) → and_then x next ≡ read b rest
    → Both x next (read b rest)
both (refused r) next b rest e = absurd (let z : ◌≡◌ {A = ℕ} 0 1 = cc in omega arith)
both (read a m) next b rest e = record { value = a; rest = m; first = refl; second = e }

pub not-refused : {A : Type 0} (t : Bool) (r : FrameRefusal) (x : Reading A) (a : A) (rest : List ℕ) → refused_if t r x ≡ read a rest
    → (t ≡ false) × (x ≡ read a rest)
not-refused true r x a rest e = absurd (let z : ◌≡◌ {A = ℕ} 0 1 = cc in omega arith)
not-refused false r x a rest e = (refl, e)

-- what an accepted reading read
pub record Taken {A : Type 0} (x : Reading A) : Type 0 where
  pub value : A
  pub rest : List ℕ
  pub is : x ≡ read value rest

pub taken : {A : Type 0} (x : Reading A) → Accepted x → Taken x
taken (refused r) e = absurd (let z : ◌≡◌ {A = ℕ} 0 1 = cc in omega arith)
taken (read a rest) e = record { value = a; rest = rest; is = refl }

-- ---- what follows

pub record Follows (l rest : List ℕ) : Type 0 where
  pub count : ℕ
  pub fits : count ≤ length l
  pub here : rest ≡ drop count l

follows_trans : (l m n : List ℕ) → Follows l m → Follows m n → Follows l n
follows_trans l m n p q = record {
  count = p.count + q.count;
  fits = let h : q.count ≤ length (drop p.count l) = rw (← p.here) q.fits in omega (arith, length-drop p.count l);
  here = q.here ∙ rw p.here (drop-drop q.count p.count l);
}

-- a reader leaves a tail of the bytes that it is given
abbrev pub Reads : {A : Type 0} → (List ℕ → Reading A) → Type 0
Reads {A} f = (l : List ℕ) (a : A) (rest : List ℕ) → f l ≡ read a rest → Follows l rest

-- where the rest of a reading at a place of a frame stands
pub record Placed (frame : List ℕ) (at : ℕ) (rest : List ℕ) : Type 0 where
  pub forward : at ≤ length frame - length rest
  pub within : length frame - length rest ≤ length frame
  pub here : rest ≡ drop (length frame - length rest) frame

pub place : (frame : List ℕ) (at : ℕ) (rest : List ℕ) → at ≤ length frame → Follows (drop at frame) rest → Placed frame at rest
place frame at rest h p =
    let e : rest ≡ drop (at + p.count) frame = p.here ∙ drop-drop p.count at frame in
    let n : length rest ≡ length frame - (at + p.count) = rw e (length-drop (at + p.count) frame) in
    let f = p.fits in
    let k : length frame - length rest ≡ at + p.count = omega (arith, length-drop at frame) in
    record { forward = omega arith; within = omega arith; here = rw k e }

-- ---- many

module _ {A : Type 0} (f : List ℕ → Reading A) where
  -- the first of them, the others, and the bytes between
  pub record First (k : ℕ) (l : List ℕ) (all : List A) (rest : List ℕ) : Type 0 where
    pub value : A
    pub others : List A
    pub between : List ℕ
    pub first : f l ≡ read value between
    pub later : read_many f k between ≡ read others rest
    pub whole : all ≡ value ∷ others

  pub many_first : (k : ℕ) (l : List ℕ) (all : List A) (rest : List ℕ) → read_many f (suc k) l ≡ read all rest → First k l all rest
  unfolding read_many
  many_first k l all rest e =
      let p = both (f l) _ all rest e in
      let q = both (read_many f k p.rest) _ all rest p.second in
      let s = q.second in
      let w : p.value ∷ q.value ≡ all = cc in
      let m : q.rest ≡ rest = cc in
      record { value = p.value; others = q.value; between = p.rest; first = p.first; later = let t = q.first in cc; whole = sym w }

  pub many_length : (k : ℕ) (l : List ℕ) (all : List A) (rest : List ℕ) → read_many f k l ≡ read all rest → length all ≡ k
  unfolding read_many
  many_length zero l all rest e = let n : all ≡ [] = cc in rw n
  many_length (suc k) l all rest e =
      let p = many_first k l all rest e in rw p.whole (ap suc (many_length k p.between p.others rest p.later))

  -- what holds of each that is read holds of all
  pub many_every : (Q : A → Type 0) → ((l : List ℕ) (a : A) (rest : List ℕ) → f l ≡ read a rest → Q a)
      → (k : ℕ) (l : List ℕ) (all : List A) (rest : List ℕ) → read_many f k l ≡ read all rest → Every Q all
  unfolding read_many
  many_every Q h zero l all rest e = let n : all ≡ [] = cc in rw n tt
  many_every Q h (suc k) l all rest e =
      let p = many_first k l all rest e in rw p.whole (
        h l p.value p.between p.first,
        many_every Q h k p.between
            p.others rest p.later,
      )

  pub many_reads : Reads f → (k : ℕ) → Reads (read_many f k)
  unfolding read_many
  many_reads h zero l all rest e = record { count = 0; fits = omega arith; here = cc }
  many_reads h (suc k) l all rest e =
      let p = many_first k l all rest e in
      follows_trans l p.between rest (h l p.value p.between p.first) (many_reads h k p.between p.others rest p.later)

-- ---- a count, a ring, a part

pub record CountRead (l : List ℕ) (n : ℕ) (rest : List ℕ) : Type 0 where
  pub whole : 2 ≤ length l
  pub count : n ≡ count_of l
  pub follows : rest ≡ drop 2 l

pub count-read : (l : List ℕ) (n : ℕ) (rest : List ℕ) → read_count l ≡ read n rest → CountRead l n rest
unfolding read_count
count-read l n rest e =
    let p = not-refused (ltb (length l) 2) Truncated _ n rest e in
    let q = p.1 in
    record { whole = ltb-false (length l) 2 p.0; count = cc; follows = cc }

pub record RingRead (l : List ℕ) (ring : List Coord) (rest : List ℕ) : Type 0 where
  pub whole : 2 + 16 * count_of l ≤ length l
  pub few : count_of l ≤ most_in_ring
  pub coordinates : ring ≡ close (coords_of (count_of l) (drop 2 l))
  pub follows : rest ≡ drop (2 + 16 * count_of l) l

pub ring-read : (l : List ℕ) (ring : List Coord) (rest : List ℕ) → read_ring l ≡ read ring rest → RingRead l ring rest
unfolding read_ring read_coords
ring-read l ring rest e =
    let p = both (read_count l) _ ring rest e in
    let c = count-read l p.value p.rest p.first in
    let q = not-refused (ltb most_in_ring p.value) CoordinateCount _ ring rest p.second in
    let s = not-refused (ltb (length p.rest) (16 * p.value)) Truncated _ ring rest q.1 in
    let few = ltb-false most_in_ring p.value q.0 in
    let long = rw (c.count, c.follows) at (ltb-false (length p.rest) (16 * p.value) s.0) in
    let r = rw (c.count, c.follows) at s.1 in
    record {
      whole = let w = c.whole in omega (arith, length-drop 2 l);
      few = rw (← c.count) few;
      coordinates = cc;
      follows = let k : rest ≡ drop (16 * count_of l) (drop 2 l) = cc in k ∙ drop-drop (16 * count_of l) 2 l;
    }

pub ring_reads : Reads read_ring
ring_reads l ring rest e = let p = ring-read l ring rest e in record { count = 2 + 16 * count_of l; fits = p.whole; here = p.follows }

pub record PartRead (l : List ℕ) (part : List (List Coord)) (rest : List ℕ) : Type 0 where
  pub whole : 2 ≤ length l
  pub some : 0 < count_of l
  pub few : count_of l ≤ most_rings
  pub rings : read_many read_ring (count_of l) (drop 2 l) ≡ read part rest

pub part-read : (l : List ℕ) (part : List (List Coord)) (rest : List ℕ) → read_part l ≡ read part rest → PartRead l part rest
unfolding read_part
part-read l part rest e =
    let p = both (read_count l) _ part rest e in
    let c = count-read l p.value p.rest p.first in
    let q = not-refused (wrong_ring_count p.value) RingCount _ part rest p.second in
    let n = neither (eqb p.value 0) (ltb most_rings p.value) q.0 in
    let ne : p.value ≡ 0 → ⊥ = eqb-false p.value 0 n.0 in
    let few : p.value ≤ most_rings = ltb-false most_rings p.value n.1 in
    record {
      whole = c.whole;
      some = rw (← c.count) (omega (arith, ne));
      few = rw (← c.count) few;
      rings = rw (c.count, c.follows) at q.1;
    }

pub part_reads : Reads read_part
part_reads l part rest e =
    let p = part-read l part rest e in
    follows_trans l (drop 2 l) rest (record { count = 2; fits = p.whole; here = refl })
    (many_reads read_ring ring_reads (count_of l) (drop 2 l) part rest p.rings)

-- ---- a frame

parts-read : (k : ℕ) (l : List ℕ) (parts : List (List (List Coord))) (rest : List ℕ) → read_parts k l ≡ read parts rest
    → (read_many read_part k l ≡ read parts rest) × (length rest ≡ 0)
unfolding read_parts
parts-read k l parts rest e =
    let p = both (read_many read_part k l) _ parts rest e in
    let q = not-refused (ltb 0 (length p.rest)) Trailing (read p.value p.rest) parts rest p.second in
    let all = p.first in
    let same = q.1 in
    let bytes : p.rest ≡ rest = cc in
    (cc, omega (arith, ap length bytes, ltb-false 0 (length p.rest) q.0))

pub record FrameRead (l : List ℕ) (frame : Frame) (rest : List ℕ) : Type 0 where
  pub short : head_bytes ≤ length l
  pub long : length l ≤ longest
  pub kind : wrong_kind (kind_of l) ≡ false
  pub flags : flags_byte l ≤ most_flags
  pub count : wrong_part_count (kind_of l) (part_count_of l) ≡ false
  pub few : part_count_of l ≤ most_parts
  pub head : frame.head ≡ head_of l
  pub parts : read_many read_part (part_count_of l) (drop head_bytes l) ≡ read frame.parts rest
  pub end : length rest ≡ 0

pub frame_read : (l : List ℕ) (frame : Frame) (rest : List ℕ) → read_frame l ≡ read frame rest → FrameRead l frame rest
unfolding read_frame
frame_read l frame rest e =
    let size = not-refused (wrong_size (length l)) Size _ frame rest e in
    let kind = not-refused (wrong_kind (kind_of l)) Kind _ frame rest size.1 in
    let flags = not-refused (ltb most_flags (flags_byte l)) FlagBits _ frame rest kind.1 in
    let count = not-refused (wrong_part_count (kind_of l) (part_count_of l)) PartCount _ frame rest flags.1 in
    let p = both (read_parts (part_count_of l) (drop head_bytes l)) _ frame rest count.1 in
    let q = parts-read (part_count_of l) (drop head_bytes l) p.value p.rest p.first in
    let all = q.0 in
    let whole = p.second in
    let bytes : p.rest ≡ rest = cc in
    let same : ◌≡◌ {A = Frame} (record { head = head_of l; parts = p.value }) frame = cc in
    let fits = neither (ltb (length l) head_bytes) (ltb longest (length l)) size.0 in
    record {
      short = ltb-false (length l) head_bytes fits.0;
      long = ltb-false longest (length l) fits.1;
      kind = kind.0;
      flags = ltb-false most_flags (flags_byte l) flags.0;
      count = count.0;
      few = ltb-false most_parts (part_count_of l) (neither (eqb (kind_of l) polygon_kind && not (eqb (part_count_of l) 1))
          (ltb most_parts (part_count_of l)) count.0).1;
      head = sym (ap (λ (f : Frame). f.head) same);
      parts = all ∙ ap₂ read (ap (λ (f : Frame). f.parts) same) bytes;
      end = omega (arith, ap length bytes, q.1);
    }
