-- The loops that measure an accepted frame: what is found of the coordinates, rings or parts that are left, with what was found so far, is
-- what is found of all. Assumes nothing.
use mathlib.Core.Path.{◌≡◌, refl, sym, ◌∙◌, ap}
use mathlib.Core.Bool.{Bool, true, false, ◌||◌}
use mathlib.Core.List.{List, [], ◌∷◌}
use Prim.Native.Nat.{ℕ, zero, suc, ◌+◌, ◌*◌, ◌-◌, ◌<◌, ◌≤◌}
use native.Mathlib.Omega.{arith}
use lib.ListN.{length, drop, length-drop}
use lib.Seq.{drop-drop}
use Rattle.tile.specs.declared.Coord.{Coord}
use Rattle.tile.specs.Ring.{close}
use Rattle.rings.specs.declared.rectangle.Rect.{Rect}
use Rattle.rings.specs.declared.rectangle.Rect.TheVariants as Rects
use Rattle.rings.specs.Rectangle.{with_coord, with_ring, with_rings, with_parts}
use Rattle.rings.specs.Representable.{huge_coord, any_huge, any_huge_ring}
use Rattle.rings.proofs.Closing.{rect_close, huge-close}
use Rattle.frame_bytes.specs.declared.measure.Measured.{Measured}
use Rattle.frame_bytes.specs.Frame.{Reading, refused, read, read_many, count_of, coord_of, coords_of, read_ring, read_part, read_frame}
use Rattle.frame_bytes.specs.Frame.{head_bytes, part_count_of}
use Rattle.frame_bytes.specs.Internal.{check_of, Accepted, measured_of, frame_rect, huge_of}
use Rattle.frame_bytes.proofs.Coordinates.{left, left_one, left-all}
use Rattle.frame_bytes.proofs.Places.{step, no_more, ring-at, part-at}
use Rattle.frame_bytes.proofs.Readings.{Reads, taken, ring_reads, part_reads, frame_read}

-- ---- the coordinates of a ring

module _ (frame : List ℕ) (at n i : ℕ) where
  pub rect_one : (r : Rect) → i < n → with_ring r (left frame at n i) ≡ with_ring (with_coord r (coord_of (drop (at + 16 * i) frame)))
      (left frame at n (i + 1))
  unfolding with_ring
  rect_one r h = rw (left_one frame at n i h)

  pub rect_all : (r : Rect) → n ≤ i → with_ring r (left frame at n i) ≡ r
  unfolding with_ring
  rect_all r h = rw (left-all frame at n i h)

  pub huge-one : i < n → any_huge (left frame at n i) ≡ (huge_coord (coord_of (drop (at + 16 * i) frame)) || any_huge (left frame at n (i + 1)))
  unfolding any_huge
  huge-one h = rw (left_one frame at n i h)

  pub huge-all : n ≤ i → any_huge (left frame at n i) ≡ false
  unfolding any_huge
  huge-all h = rw (left-all frame at n i h)

-- the first coordinate, then the rest
pub rect_first : (frame : List ℕ) (at n : ℕ) (r : Rect) → 0 < n → with_ring r (coords_of n (drop at frame)) ≡ with_ring
    (with_coord r (coord_of (drop at frame))) (coords_of (n - 1) (drop (at + 16) frame))
unfolding with_ring coords_of
rect_first frame at zero r h = absurd (omega arith)
rect_first frame at (suc n) r h = let e : suc n - 1 ≡ n = omega arith in rw (e, ← drop-drop 16 at frame)

pub rect_none : (r : Rect) (n : ℕ) (l : List ℕ) → n ≡ 0 → with_ring r (coords_of n l) ≡ r
unfolding with_ring coords_of
rect_none r zero l h = refl
rect_none r (suc n) l h = absurd (omega (arith, h))

-- ---- many things, one behind the other

module _ {A Found : Type 0} (f : List ℕ → Reading A) (fold : Found → List A → Found) (frame : List ℕ) where
  -- k of them are ahead from a place on, before the rest of the bytes
  pub record Ahead (all : Found) (rest : List ℕ) (sofar : Found) (at k : ℕ) : Type 0 where
    pub things : List A
    pub within : at ≤ length frame
    pub reading : read_many f k (drop at frame) ≡ read things rest
    pub sum : all ≡ fold sofar things

  -- the first of them, and the others with what is found of it
  pub record Next (g : Found → A → Found) (all : Found) (rest : List ℕ) (sofar : Found) (at k : ℕ) : Type 0 where
    pub value : A
    pub next : ℕ
    pub within : next ≤ length frame
    pub first : f (drop at frame) ≡ read value (drop next frame)
    pub ahead : Ahead all rest (g sofar value) next (k - 1)

  pub ahead_next : Reads f → (g : Found → A → Found) → ((v : Found) (a : A) (others : List A) → fold v (a ∷ others) ≡ fold (g v a) others)
      → (all : Found) (rest : List ℕ) (sofar : Found) (at k : ℕ) → 0 < k → Ahead all rest sofar at k → Next g all rest sofar at k
  ahead_next reads g law all rest sofar at k h l =
      let p = step f reads frame at k l.things rest l.within h l.reading in
      record {
        value = p.value;
        next = p.next;
        within = p.within;
        first = p.first;
        ahead = record {
          things = p.others;
          within = p.within;
          reading = p.later;
          sum = l.sum ∙ ap (fold sofar) p.whole
              ∙ law sofar p.value p.others;
        };
      }

  pub ahead_none : ((v : Found) → fold v [] ≡ v) → (all : Found) (rest : List ℕ) (sofar : Found) (at k : ℕ) → k ≤ 0
      → Ahead all rest sofar at k → (all ≡ sofar) × (rest ≡ drop at frame)
  ahead_none nil all rest sofar at k h l =
      let p = no_more f k (drop at frame) l.things rest h l.reading in
      (l.sum ∙ ap (fold sofar) p.0 ∙ nil sofar, p.1)

-- ---- the rings of a part

-- the bytes behind what was read
abbrev pub rest_of : {A : Type 0} → Reading A → List ℕ
rest_of (refused r) = []
rest_of (read a rest) = rest

module _ {Found : Type 0} (fold : Found → List (List Coord) → Found) (frame : List ℕ) where
  pub part_ahead : (at : ℕ) (all v : Found) → at ≤ length frame → Accepted (read_part (drop at frame))
      → ((part : List (List Coord)) (rest : List ℕ) → read_part (drop at frame) ≡ read part rest → all ≡ fold v part)
      → Ahead read_ring fold frame all (rest_of (read_part (drop at frame))) v (at + 2) (count_of (drop at frame))
  part_ahead at all v h a whole =
      let t = taken (read_part (drop at frame)) a in
      let p = part-at frame at t.value t.rest h t.is in
      record {
        things = t.value;
        within = p.whole;
        reading = p.rings ∙ ap (read t.value) (sym (ap rest_of t.is));
        sum =
            whole t.value t.rest t.is;
      }

  -- the first ring stands in the frame, and where closing makes no difference it may be taken as it stands
  pub record RingNext (g : Found → List Coord → Found) (all : Found) (rest : List ℕ) (sofar : Found) (at k : ℕ) : Type 0 where
    pub whole : at + 2 + 16 * count_of (drop at frame) ≤ length frame
    pub ahead : Ahead read_ring fold frame all rest (g sofar (coords_of (count_of (drop at frame)) (drop (at + 2) frame)))
        (at + 2 + 16 * count_of (drop at frame)) (k - 1)

  pub ring_next : (g : Found → List Coord → Found) → ((v : Found) (ring : List Coord) (others : List (List Coord))
      → fold v (ring ∷ others) ≡ fold (g v ring) others)
      → ((v : Found) (ring : List Coord) → g v (close ring) ≡ g v ring)
      → (all : Found) (rest : List ℕ) (sofar : Found) (at k : ℕ) → 0 < k → Ahead read_ring fold frame all rest sofar at k
      → RingNext g all rest sofar at k
  ring_next g law closing all rest sofar at k h l =
      let p = ahead_next read_ring fold frame ring_reads g law all rest sofar at k h l in
      let r = ring-at frame at p.value (drop p.next frame) l.within p.first in
      let w = r.whole in
      let i = p.within in
      let e : p.next ≡ at + 2 + 16 * count_of (drop at frame) =
      omega (arith, ap length r.follows, length-drop p.next frame, length-drop (at + 2 + 16 * count_of (drop at frame)) frame) in
      let v : g sofar p.value ≡ g sofar (coords_of (count_of (drop at frame)) (drop (at + 2) frame)) = ap (g sofar) r.coordinates
      ∙ closing sofar (coords_of (count_of (drop at frame)) (drop (at + 2) frame)) in
      record { whole = w; ahead = rw (← v, ← e) p.ahead }

-- ---- the rectangle of a part

rings_more : (v : Rect) (ring : List Coord) (others : List (List Coord)) → with_rings v (ring ∷ others) ≡ with_rings (with_ring v ring) others
unfolding with_rings
rings_more v ring others = refl

rings-none : (v : Rect) → with_rings v [] ≡ v
unfolding with_rings
rings-none v = refl

module _ (frame : List ℕ) (at : ℕ) (rect : Rect) where
  -- so many rings are left, with the rectangle so far
  abbrev pub RectLeft : Rect → ℕ → ℕ → Type 0
  RectLeft sofar next k =
      Ahead read_ring with_rings frame (measured_of (length frame) rect (read_part (drop at frame))).rect
      (rest_of (read_part (drop at frame))) sofar next k

  pub rect_start : at ≤ length frame → Accepted (read_part (drop at frame)) → RectLeft rect (at + 2) (count_of (drop at frame))
  rect_start h a =
      part_ahead with_rings frame at (measured_of (length frame) rect (read_part (drop at frame))).rect rect h a (λ part rest e. rw e)

  pub rect_next : (sofar : Rect) (next k : ℕ) → 0 < k → RectLeft sofar next k
      → RingNext with_rings frame with_ring (measured_of (length frame) rect (read_part (drop at frame))).rect
      (rest_of (read_part (drop at frame))) sofar next k
  rect_next sofar next k h l = ring_next with_rings frame with_ring rings_more rect_close _ _ sofar next k h l

  pub rect_end : (sofar : Rect) (next k : ℕ) → Accepted (read_part (drop at frame)) → k ≤ 0 → RectLeft sofar next k
      → record { rect = sofar; next = next } ≡ measured_of (length frame) rect (read_part (drop at frame))
  rect_end sofar next k a h l =
      let p = ahead_none read_ring with_rings frame rings-none _ _ sofar next k h l in
      go (read_part (drop at frame)) a p.0 p.1
    where
      go : (x : Reading (List (List Coord))) → Accepted x → (measured_of (length frame) rect x).rect ≡ sofar → rest_of x ≡ drop next frame
          → record { rect = sofar; next = next } ≡ measured_of (length frame) rect x
      go (refused r) a e f = absurd (let z : ◌≡◌ {A = ℕ} 0 1 = cc in omega arith)
      go (read part rest) a e f =
          let w = l.within in
          let n : length frame - length rest ≡ next = rw f (omega (arith, length-drop next frame)) in
          rw (e, n)

-- ---- the rectangle of all parts

parts_more : (v : Rect) (part : List (List Coord)) (others : List (List (List Coord))) → with_parts v (part ∷ others) ≡ with_parts
    (with_rings v part) others
unfolding with_parts
parts_more v part others = refl

parts_none : (v : Rect) → with_parts v [] ≡ v
unfolding with_parts
parts_none v = refl

module _ (frame : List ℕ) where
  -- so many parts are left, with the rectangle so far
  abbrev pub PartsLeft : Rect → ℕ → ℕ → Type 0
  PartsLeft sofar at k = Ahead read_part with_parts frame (frame_rect (read_frame frame)) (rest_of (read_frame frame)) sofar at k

  pub parts_start : Accepted (read_frame frame) → PartsLeft Rects.Nothing head_bytes (part_count_of frame)
  parts_start a =
      let t = taken (read_frame frame) a in
      let p = frame_read frame t.value t.rest t.is in
      record {
        things = t.value.parts;
        within = p.short;
        reading = p.parts ∙ ap (read t.value.parts) (sym (ap rest_of t.is));
        sum = ap frame_rect t.is;
      }

  pub parts-here : (sofar : Rect) (at k : ℕ) → 0 < k → PartsLeft sofar at k → Accepted (read_part (drop at frame))
  parts-here sofar at k h l = ap check_of (ahead_next read_part with_parts frame part_reads with_rings parts_more _ _ sofar at k h l).first

  pub parts_next : (sofar : Rect) (at k : ℕ) (one : Measured) → 0 < k → one ≡ measured_of (length frame) sofar (read_part (drop at frame))
      → PartsLeft sofar at k → PartsLeft one.rect one.next (k - 1)
  parts_next sofar at k one h o l =
      let p = ahead_next read_part with_parts frame part_reads with_rings parts_more _ _ sofar at k h l in
      let i = p.within in
      let e : one ≡ record { rect = with_rings sofar p.value; next = length frame - length (drop p.next frame) } = o
      ∙ ap (measured_of (length frame) sofar) p.first in
      let r : one.rect ≡ with_rings sofar p.value = ap (λ (m : Measured). m.rect) e in
      let n : one.next ≡ p.next = ap (λ (m : Measured). m.next) e ∙ omega (arith, length-drop p.next frame) in
      rw (r, n) p.ahead

  pub parts_end : (sofar : Rect) (at k : ℕ) → k ≤ 0 → PartsLeft sofar at k → sofar ≡ frame_rect (read_frame frame)
  parts_end sofar at k h l = sym (ahead_none read_part with_parts frame parts_none _ _ sofar at k h l).0

-- ---- a huge coordinate in a part

-- found so far, or in one of these rings
abbrev pub or_huge : Bool → List (List Coord) → Bool
or_huge found rings = found || any_huge_ring rings

abbrev pub or_huge_ring : Bool → List Coord → Bool
or_huge_ring found ring = found || any_huge ring

huge_more : (found : Bool) (ring : List Coord) (others : List (List Coord)) → or_huge found (ring ∷ others) ≡ or_huge
    (or_huge_ring found ring) others
unfolding any_huge_ring
huge_more true ring others = refl
huge_more false ring others = refl

huge-none : (found : Bool) → or_huge found [] ≡ found
unfolding any_huge_ring
huge-none true = refl
huge-none false = refl

module _ (frame : List ℕ) (at : ℕ) where
  -- so many rings are left, and one was found so far or not
  abbrev pub HugeLeft : Bool → ℕ → ℕ → Type 0
  HugeLeft found next k = Ahead read_ring or_huge frame (huge_of (read_part (drop at frame))) (rest_of (read_part (drop at frame))) found next k

  pub huge_start : at ≤ length frame → Accepted (read_part (drop at frame)) → HugeLeft false (at + 2) (count_of (drop at frame))
  huge_start h a = part_ahead or_huge frame at (huge_of (read_part (drop at frame))) false h a (λ part rest e. rw e)

  pub huge_next : (next k : ℕ) → 0 < k → HugeLeft false next k → RingNext or_huge frame or_huge_ring (huge_of (read_part (drop at frame)))
      (rest_of (read_part (drop at frame))) false next k
  huge_next next k h l =
      ring_next or_huge frame or_huge_ring huge_more (λ found ring. ap (λ (t : Bool). found || t) (huge-close ring)) _ _ false next k h l

  pub huge_end : (next k : ℕ) → k ≤ 0 → HugeLeft false next k → huge_of (read_part (drop at frame)) ≡ false
  huge_end next k h l = (ahead_none read_ring or_huge frame huge-none _ _ false next k h l).0
