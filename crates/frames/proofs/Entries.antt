-- The frame call: a frame that is read has room for its parts, its answer is the one that its rectangle leads to, and the answer's bytes
-- fit the output. Assumes nothing.
use mathlib.Core.Path.{◌≡◌, refl, sym, ◌∙◌, ap, subst}
use mathlib.Core.Bool.{Bool, true, false, not, cond, ◌&&◌, and-true, true≢false}
use mathlib.Core.List.{List, [], ◌∷◌}
use Prim.Native.Nat.{ℕ, suc, ◌+◌, ◌*◌, ◌<◌, ◌≤◌}
use native.Mathlib.Omega.{arith}
use borrow.Author.Tests.{eqb-true, ne_eqb, not-true, not-false}
use lib.Dec.{eqb}
use lib.ListN.{length, drop, length-append}
use Rattle.binary64.proofs.Booleans.{both, neither}
use Rattle.binary64.proofs.Fill.{whole-over}
use Rattle.binary64.specs.Lists.{Every}
use Rattle.tile.specs.declared.Coord.{Coord}
use Rattle.tile.specs.declared.TileBounds.{TileBounds}
use Rattle.box_pairs.specs.Issue.{issue_of, has_issue}
use Rattle.rings.specs.declared.rectangle.Rect.{Rect}
use Rattle.rings.specs.declared.rectangle.Rect.TheVariants as Rects
use Rattle.rings.specs.Rectangle.{rectangle, with_rings, intersects_bounds, is_fully_inside, with_parts}
use Rattle.rings.specs.LentRings.{total, exterior}
use Rattle.clip.specs.declared.polygon.Flags.{Flags}
use Rattle.clip.specs.Polygon as Polygon
use Rattle.frame_bytes.specs.declared.accepted.AcceptedFrame.{AcceptedFrame}
use Rattle.frame_bytes.specs.Accepted.{frame_reading}
use Rattle.frame_bytes.specs.declared.head.Head.{Head}
use Rattle.frame_bytes.specs.declared.reader.FrameRefusal.{FrameRefusal}
use Rattle.frame_bytes.specs.Frame.{Reading, refused, read, polygon_kind, multipolygon_kind, longest, most_parts, head_bytes}
use Rattle.frame_bytes.specs.Frame.{count_of, read_ring, read_part, Frame, kind_of, part_count_of, wrong_kind, wrong_part_count, head_of, read_frame}
use Rattle.frame_bytes.specs.Internal.{check_of, Accepted, all_in, part_at, frame_room, frame_rect, sound_if_simple}
use Rattle.frame_bytes.specs.Room.{least_room, answer_coord_size, part_room, output_room, read_call}
use Rattle.frame_bytes.specs.Encoding.{each, header_bytes}
use Rattle.frame_bytes.proofs.Readings.{taken, many_length, many_every, part-read, frame_read}
use Rattle.frame_bytes.proofs.Rooms.{most_part, parts-le, frame_head, frame_few, frame_parts, call-read}
use Rattle.frame_bytes.proofs.Writing.{each_append, length_header}
use Rattle.frame_bytes.proofs.SimpleExteriors.{sound_part}
use Rattle.frame_parts.specs.Part.{Part, part_of, part_bytes}
use Rattle.frame_parts.specs.Internal.{routed_part, measured_part, Lengths, PartRoom, PositionsRoom}
use Rattle.frame_parts.proofs.CutParts.{bytes_fit}
use Rattle.std.specs.Prelude.{Ok, Err}
use Rattle.frames.specs.Answer.{Answer, Nothing, Unchanged, Listed, of_outcome, of_polygon, route_part, listed_before, list_parts}
use Rattle.frames.specs.Answer.{of_parts, if_box, of_multipolygon, flags_in, bounds_in, only_part, route_polygon, answer_to}
use Rattle.frames.specs.Output.{answer_bytes, frame_bytes, output_of, frame_call_output}
use Rattle.frames.specs.Internal.{parts_from, of_listing, Answers, parts_of, answer_read, answer_measured, unchanged_at_once}
use Rattle.frames.specs.Internal.{PartsReady, Answerable, Cuttable}
use Rattle.frames.specs.FrameCall.{answer_of_reading, frame_call_answer}
use Rattle.frames.proofs.Listings.{routed-as, listed-append, listed-fits, NextPart, next_part, part_next, part_room_lem, positions-room}
use Rattle.frames.proofs.Sizes.{Enough, parts_fit}

-- ---- what an accepted frame holds

-- a polygon has one part
one-part : (kind parts : ℕ) → wrong_part_count kind parts ≡ false → eqb kind polygon_kind ≡ true → parts ≡ 1
one-part kind parts e k =
    let n = (neither (eqb kind polygon_kind && not (eqb parts 1)) _ e).0 in
    let m : not (eqb parts 1) ≡ false = rw k at n in
    eqb-true parts 1 (not-false (eqb parts 1) m)

-- there are two kinds
other_kind : (kind : ℕ) → wrong_kind kind ≡ false → eqb kind multipolygon_kind ≡ not (eqb kind polygon_kind)
other_kind kind e = go (eqb kind polygon_kind) (eqb kind multipolygon_kind) refl refl
  where
    go : (s t : Bool) → eqb kind polygon_kind ≡ s → eqb kind multipolygon_kind ≡ t → t ≡ not s
    go true true f g = let p = eqb-true kind 3 f in let q = eqb-true kind 6 g in absurd (omega (arith, p, q))
    go true false f g = refl
    go false true f g = refl
    go false false f g = absurd (true≢false (rw (f, g) at e))

pub record Holds (frame : List ℕ) : Type 0 where
  pub long : length frame ≤ longest
  pub parts_from_lem : parts_from frame head_bytes (part_count_of frame) ≡ parts_of (read_frame frame)
  pub rect : frame_rect (read_frame frame) ≡ with_parts Rects.Nothing (parts_of (read_frame frame))
  pub fits : frame_room answer_coord_size (read_frame frame) ≡ least_room + total (part_room answer_coord_size) (parts_of (read_frame frame))
  pub kinds : eqb (kind_of frame) multipolygon_kind ≡ not (eqb (kind_of frame) polygon_kind)
  pub only : eqb (kind_of frame) polygon_kind ≡ true → part_count_of frame ≡ 1

pub holds : (frame : List ℕ) → Accepted (read_frame frame) → Holds frame
unfolding output_room
holds frame a = let t = taken (read_frame frame) a in go t.value t.rest t.is
  where
    go : (f : Frame) (rest : List ℕ) → read_frame frame ≡ read f rest → Holds frame
    go f rest e =
        let r = frame_read frame f rest e in
        record {
          long = r.long;
          parts_from_lem = ap all_in r.parts ∙ sym (ap parts_of e);
          rect = rw e;
          fits = rw e;
          kinds = other_kind (kind_of frame) r.kind;
          only = one-part (kind_of frame) (part_count_of frame) r.count;
        }

-- ---- room for the parts

-- slices with room for a ring of m coordinates are enough for a frame that is no longer than one such ring takes
pub ready : (frame : AcceptedFrame) (head : Head) (m : ℕ) (lent : Lengths) (order out : ℕ) → Cuttable frame head out
    → length frame.bytes.now ≤ 47 + 16 * m → Enough m lent order → PartsReady frame.bytes.now head lent order out
ready frame head m lent order out c small enough =
    let y = c.answerable in
    let f = frame.bytes.now in
    let x = frame.accepted in
    let h = holds f x in
    let k = part_count_of f in
    let finite : with_parts Rects.Nothing (parts_from f head_bytes k) ≡ Rects.NotFinite
    → ⊥ = λ z. c.finite (h.rect ∙ rw (← h.parts_from_lem) z) in
    subst (λ (g : Head). PartsReady f g lent order out) (sym y.head_read) (record {
      room = record {
        within = frame_head f x;
        accepted = frame_parts f x;
        workable =
            parts_fit f m small lent order enough k head_bytes Rects.Nothing (omega arith) (frame_head f x) (frame_parts f x)
            finite;
        output = rw h.parts_from_lem (omega (arith, h.fits, y.output));
      };
      few = frame_few f x;
      some = λ e. omega (arith, h.only e);
    })

-- the parts that are read are those from the head's end on
pub parts-read : (frame : AcceptedFrame) (head : Head) (out : ℕ) → Answerable frame head out
    → parts_from frame.bytes.now head_bytes head.parts ≡ parts_of (frame_reading frame)
parts-read frame head out y = rw y.head_read (holds frame.bytes.now frame.accepted).parts_from_lem

-- what is answered as if rect were the rectangle: of a polygon's only part, and of a listing
module _ (frame : List ℕ) (head : Head) (lent : Lengths) (order out : ℕ) (r : PartsReady frame head lent order out)
    (k : eqb head.kind polygon_kind ≡ true) where
  pub only_reads : Accepted (read_part (drop head_bytes frame))
  only_reads = (part_next (flags_in head) head.bounds frame head_bytes head.parts lent order out least_room (r.some k) r.room).accepted

  pub only_room : PartRoom (part_at frame head_bytes) lent out least_room
  only_room = part_room_lem (flags_in head) head.bounds frame head_bytes head.parts lent order out least_room (r.some k) r.room

  pub only_positions : PositionsRoom (part_at frame head_bytes) order
  only_positions = positions-room (flags_in head) head.bounds frame head_bytes head.parts lent order out least_room (r.some k) r.room

  pub only_part_lem : (rect : Rect) (bounds : TileBounds) → answer_measured head rect bounds (parts_from frame head_bytes head.parts)
      ≡ of_polygon (measured_part 0 (flags_in head) rect bounds (part_at frame head_bytes))
  only_part_lem rect bounds =
      rw (k, (part_next (flags_in head) head.bounds frame head_bytes head.parts lent order out least_room (r.some k) r.room).here)

pub as-answer : {x y : Answer} {out out' : List ℕ} {r : ℕ} → x ≡ y → Answers y out r out' → Answers x out r out'
as-answer e a = rw e a

-- what is no multipolygon
pub polygon-else : (frame : List ℕ) (head : Head) → Accepted (read_frame frame) → head ≡ head_of frame
    → (head.kind ≡ multipolygon_kind → ⊥) → eqb (kind_of frame) polygon_kind ≡ true
polygon-else frame head a hd n =
    let e : eqb (kind_of frame) multipolygon_kind ≡ false = rw hd at (ne_eqb head.kind multipolygon_kind n) in
    not-false (eqb (kind_of frame) polygon_kind) (sym (holds frame a).kinds ∙ e)

-- a polygon's only part, as it stands in the frame
module _ (frame : List ℕ) (a : Accepted (read_frame frame)) (k : eqb (kind_of frame) polygon_kind ≡ true) where
  only_next : NextPart frame head_bytes (part_count_of frame)
  only_next =
      next_part frame head_bytes (part_count_of frame) (frame_head frame a) (omega (arith, (holds frame a).only k)) (frame_parts frame a)

  pub only_accepted : Accepted (read_part (drop head_bytes frame))
  only_accepted = only_next.accepted

  pub only_sound : sound_if_simple (read_part (drop head_bytes frame)) ≡ not
      (has_issue (issue_of true (exterior (only_part (parts_of (read_frame frame))))))
  only_sound =
      let same : only_part (parts_of (read_frame frame)) ≡ part_at frame head_bytes =
      ap only_part (sym (holds frame a).parts_from_lem ∙ only_next.here) in
      rw same (sound_part frame head_bytes only_accepted)

-- ---- the answer, by the rectangle

-- one that is finite: nothing has no coordinate, so that it is apart
pub record Apart (rect : Rect) (flags : Flags) (b : TileBounds) : Type 0 where
  pub route : (rings : List (List Coord)) → Polygon.route_rect flags rect b rings ≡ Polygon.route_measured flags rect b rings
  pub whole : (answer : Answer) → if_box rect (cond (intersects_bounds rect b) answer (Nothing 0)) ≡ cond (intersects_bounds rect b)
      answer (Nothing 0)

finite_rect : (rect : Rect) (flags : Flags) (b : TileBounds) → (rect ≡ Rects.NotFinite → ⊥) → Apart rect flags b
unfolding Polygon.route_rect Polygon.route_exterior intersects_bounds
finite_rect Rects.Nothing flags b q = record { route = λ rings. refl; whole = λ answer. refl }
finite_rect Rects.NotFinite flags b q = absurd (q refl)
finite_rect (Rects.Box w s e n) flags b q = record { route = λ rings. refl; whole = λ answer. refl }

one : (parts : List (List (List Coord))) → length parts ≡ 1 → with_parts Rects.Nothing parts ≡ rectangle (only_part parts)
unfolding with_parts
one [] e = absurd (omega (arith, e))
one (part ∷ []) e = refl
one (part ∷ other ∷ parts) e = absurd (omega (arith, e))

-- the answer to a polygon, by the rectangle of all parts
pub record Read (frame : List ℕ) (head : Head) : Type 0 where
  pub multipolygon : eqb head.kind polygon_kind ≡ false → answer_read (read_frame frame) ≡ of_multipolygon (flags_in head) (bounds_in head)
      (parts_of (read_frame frame))
  pub polygon_rect : eqb head.kind polygon_kind ≡ true → answer_read (read_frame frame) ≡ of_polygon
      (part_of 0 (bounds_in head) (only_part (parts_of (read_frame frame)))
      (Polygon.route_rect (flags_in head) (frame_rect (read_frame frame)) (bounds_in head) (only_part (parts_of (read_frame frame)))))

pub read_answer : (frame : List ℕ) (head : Head) → Accepted (read_frame frame) → head ≡ head_of frame → Read frame head
unfolding answer_to Polygon.route
read_answer frame head a hd = let t = taken (read_frame frame) a in go t.value t.rest t.is
  where
    go : (f : Frame) (rest : List ℕ) → read_frame frame ≡ read f rest → Read frame head
    go f rest e =
        let r = frame_read frame f rest e in
        let h : f.head ≡ head = r.head ∙ sym hd in
        record {
          multipolygon = λ k. rw (e, h, k);
          polygon_rect = λ k.
              let n : length f.parts ≡ 1 = many_length read_part (part_count_of frame) _ _ _ r.parts
              ∙ one-part (kind_of frame) (part_count_of frame) r.count (rw hd at k) in
              rw (e, h, k, one f.parts n);
        }

module _ (frame : List ℕ) (head : Head) (a : Accepted (read_frame frame)) (hd : head ≡ head_of frame) where
  -- no coordinate, or one that is not finite: this is answered whatever the frame lists
  pub unmeasured : (rect : Rect) (answer : Answer) → frame_rect (read_frame frame) ≡ rect
      → ((b : TileBounds) (rings : List (List Coord)) → of_polygon (part_of 0 b rings (Polygon.route_rect (flags_in head) rect b rings)) ≡
      answer)
      → ((other : Answer) → if_box rect other ≡ answer) → answer_read (read_frame frame) ≡ answer
  unfolding of_multipolygon
  unmeasured rect answer q p m = go (eqb head.kind polygon_kind) refl
    where
      go : (t : Bool) → eqb head.kind polygon_kind ≡ t → answer_read (read_frame frame) ≡ answer
      go true k = (read_answer frame head a hd).polygon_rect k ∙ rw q (p (bounds_in head) (only_part (parts_of (read_frame frame))))
      go false k = (read_answer frame head a hd).multipolygon k ∙ rw (← (holds frame a).rect, q) (m _)

-- one that is finite
module _ (frame : AcceptedFrame) (head : Head) (out : ℕ) (c : Cuttable frame head out) (rect : Rect) (b : TileBounds)
    (er : rect ≡ frame_rect (frame_reading frame)) (eb : b ≡ bounds_in head) where
  abbrev parts : List (List (List Coord))
  parts = parts_of (frame_reading frame)

  by_kind : Read frame.bytes.now head
  by_kind = read_answer frame.bytes.now head frame.accepted c.answerable.head_read

  by_rect : Apart rect (flags_in head) b
  by_rect = finite_rect rect (flags_in head) b (λ z. c.finite (sym er ∙ z))

  of-polygon : eqb head.kind polygon_kind ≡ true → answer_read (frame_reading frame) ≡ of_polygon
      (measured_part 0 (flags_in head) rect b (only_part parts))
  of-polygon k =
      by_kind.polygon_rect k
      ∙ rw (← er, ← eb) (ap (λ (to : Polygon.Routed). of_polygon (part_of 0 b (only_part parts) to)) (by_rect.route (only_part parts)))

  of_multipolygon_lem : eqb head.kind polygon_kind ≡ false → answer_read (frame_reading frame) ≡ cond (intersects_bounds rect b)
      (cond (is_fully_inside rect b) Unchanged (of_listing (list_parts (flags_in head) b 0 parts))) (Nothing 0)
  unfolding of_multipolygon
  of_multipolygon_lem k = by_kind.multipolygon k ∙ rw (← (holds frame.bytes.now frame.accepted).rect, ← er, ← eb) (by_rect.whole _)

  pub apart : intersects_bounds rect b ≡ false → answer_read (frame_reading frame) ≡ Nothing 0
  unfolding Polygon.route_exterior
  apart i = go (eqb head.kind polygon_kind) refl
    where
      go : (t : Bool) → eqb head.kind polygon_kind ≡ t → answer_read (frame_reading frame) ≡ Nothing 0
      go true k = of-polygon k ∙ rw i
      go false k = of_multipolygon_lem k ∙ rw i

  other_kinds : (t : Bool) → eqb head.kind polygon_kind ≡ t → eqb head.kind multipolygon_kind ≡ not t
  other_kinds t k = rw (← k, c.answerable.head_read) (holds frame.bytes.now frame.accepted).kinds

  pub inside : intersects_bounds rect b ≡ true → unchanged_at_once head rect b parts ≡ true → answer_read (frame_reading frame) ≡ Unchanged
  unfolding Polygon.route_exterior
  inside i j = go (eqb head.kind polygon_kind) refl
    where
      go : (t : Bool) → eqb head.kind polygon_kind ≡ t → answer_read (frame_reading frame) ≡ Unchanged
      go true k =
          let u : (is_fully_inside rect b && (head.assume_simple && not (has_issue (issue_of true (exterior (only_part parts)))))) ≡ true
          = rw (other_kinds true k) at j in
          let v = both (is_fully_inside rect b) _ u in
          let w = both head.assume_simple _ v.1 in
          of-polygon k ∙ rw (i, w.0, not-true (has_issue (issue_of true (exterior (only_part parts)))) w.1, v.0)
      go false k =
          let u : (is_fully_inside rect b && true) ≡ true = rw (other_kinds false k) at j in
          of_multipolygon_lem k ∙ rw (i, (both (is_fully_inside rect b) true u).0)

  pub measured : intersects_bounds rect b ≡ true → unchanged_at_once head rect b parts ≡ false → answer_read (frame_reading frame)
      ≡ answer_measured head rect b parts
  measured i j = go (eqb head.kind polygon_kind) refl
    where
      go : (t : Bool) → eqb head.kind polygon_kind ≡ t → answer_read (frame_reading frame) ≡ answer_measured head rect b parts
      go true k = of-polygon k ∙ rw k
      go false k =
          let u : (is_fully_inside rect b && true) ≡ false = rw (other_kinds false k) at j in
          of_multipolygon_lem k ∙ rw (i, sym (and-true (is_fully_inside rect b)) ∙ u, k)

-- ---- the answer's bytes have room

-- a part that is read has an exterior
abbrev SomeRings : List (List Coord) → Type 0
SomeRings rings = 0 < length rings

some-rings : (l : List ℕ) (part : List (List Coord)) (rest : List ℕ) → read_part l ≡ read part rest → SomeRings part
some-rings l part rest e =
    let p = part-read l part rest e in omega (arith, many_length read_ring (count_of l) (drop 2 l) part rest p.rings, p.some)

parts-some : (l : List ℕ) (f : Frame) (rest : List ℕ) → read_frame l ≡ read f rest → Every SomeRings f.parts
parts-some l f rest e =
    many_every read_part SomeRings some-rings (part_count_of l) (drop head_bytes l) f.parts rest (frame_read l f rest e).parts

listing_fits : (flags : Flags) (b : TileBounds) (i : ℕ) (parts : List (List (List Coord))) → Every SomeRings parts
    → length (each part_bytes (list_parts flags b i parts).parts) ≤ total (part_room answer_coord_size) parts
unfolding list_parts total each
listing_fits flags b i [] some = omega arith
listing_fits flags b i (part ∷ parts) some =
    let f = part_bytes in
    let listed = part_of i b part (route_part flags b part) in
    let l = (list_parts flags b (suc i) parts).parts in
    let one : length (each f (listed_before listed [])) ≤ part_room answer_coord_size part = rw (← routed-as flags b part)
    (listed-fits i b part some.0 flags (rectangle part)) in
    omega (
      arith,
      ap (λ (x : List Part). length (each f x)) (listed-append listed l),
      ap length (each_append f (listed_before listed []) l),
      length-append (each f (listed_before listed [])) (each f l),
      listing_fits flags b (suc i) parts some.1,
    )

parts-bytes : (guard : ℕ) (parts : List Part) → length (answer_bytes (of_parts guard parts)) ≤ 5 + length
    (each part_bytes parts)
unfolding answer_bytes
parts-bytes guard [] = omega (arith, length_header 0 guard 0)
parts-bytes guard (part ∷ parts) =
    omega (
      arith,
      length-append (header_bytes 3 guard (length (part ∷ parts))) (each part_bytes (part ∷ parts)),
      length_header 3 guard (length (part ∷ parts)),
    )

polygon-bytes : (part : Part) → length (answer_bytes (of_polygon part)) ≤ 5 + length (part_bytes part)
unfolding answer_bytes each
polygon-bytes part = go part.outcome
  where
    listed : length (answer_bytes (Listed 0 (part ∷ []))) ≤ 5 + length (part_bytes part)
    listed = omega (arith, parts-bytes 0 (part ∷ []), length-append (part_bytes part) [])

    go : (to : Polygon.Routed) → length (answer_bytes (of_outcome to (Listed 0 (part ∷ [])))) ≤ 5 + length (part_bytes part)
    go Polygon.nothing = omega (arith, length_header 0 0 0)
    go Polygon.dropped = omega (arith, length_header 1 1 0)
    go Polygon.unchanged = omega (arith, length_header 2 0 0)
    go (Polygon.cut rings) = listed
    go (Polygon.overlay reason) = listed

route-fits : (flags : Flags) (rect : Rect) (b : TileBounds) (rings : List (List Coord)) → SomeRings rings
    → length (answer_bytes (of_polygon (part_of 0 b rings (Polygon.route_rect flags rect b rings)))) ≤ 5 + part_room answer_coord_size rings
unfolding Polygon.route_rect answer_bytes
route-fits flags Rects.Nothing b rings some = omega (arith, length_header 0 0 0)
route-fits flags Rects.NotFinite b rings some = omega (arith, length_header 1 1 0)
route-fits flags (Rects.Box w s e n) b rings some =
    let to = Polygon.route_exterior flags (Rects.Box w s e n) b (exterior rings) in
    omega (arith, polygon-bytes (routed_part 0 to b rings), bytes_fit 0 b rings some to)

polygon-fits : (flags : Flags) (b : TileBounds) (parts : List (List (List Coord))) → Every SomeRings parts
    → length (answer_bytes (of_polygon (route_polygon flags b (only_part parts)))) ≤ 5 + total (part_room answer_coord_size) parts
unfolding Polygon.route Polygon.route_rect with_rings total answer_bytes
polygon-fits flags b [] some = omega (arith, length_header 0 0 0)
polygon-fits flags b (part ∷ parts) some = omega (arith, route-fits flags (rectangle part) b part some.0)

multipolygon_fits : (flags : Flags) (b : TileBounds) (parts : List (List (List Coord))) → Every SomeRings parts
    → length (answer_bytes (of_multipolygon flags b parts)) ≤ 5 + total (part_room answer_coord_size) parts
unfolding of_multipolygon answer_bytes
multipolygon_fits flags b parts some =
    let whole = with_parts Rects.Nothing parts in go whole (intersects_bounds whole b) (is_fully_inside whole b)
  where
    go : (r : Rect) (i j : Bool) → length (answer_bytes
        (if_box r (cond i (cond j Unchanged (of_listing (list_parts flags b 0 parts))) (Nothing 0)))) ≤ 5 + total (part_room answer_coord_size)
        parts
    go Rects.Nothing i j = omega (arith, length_header 0 0 0)
    go Rects.NotFinite i j = omega (arith, length_header 1 1 0)
    go (Rects.Box w s e n) false j = omega (arith, length_header 0 0 0)
    go (Rects.Box w s e n) true true = omega (arith, length_header 2 0 0)
    go (Rects.Box w s e n) true false =
        omega (arith, parts-bytes (list_parts flags b 0 parts).guard (list_parts flags b 0 parts).parts, listing_fits flags b 0 parts some)

answer-fits : (f : Frame) → Every SomeRings f.parts → length (frame_bytes f) ≤ output_room answer_coord_size f.parts
unfolding answer_to output_room
answer-fits f some = go (eqb f.head.kind polygon_kind)
  where
    go : (t : Bool) → length (answer_bytes
        (cond t (of_polygon (route_polygon (flags_in f.head) (bounds_in f.head) (only_part f.parts)))
        (of_multipolygon (flags_in f.head) (bounds_in f.head) f.parts))) ≤ 5 + total (part_room answer_coord_size) f.parts
    go true = polygon-fits (flags_in f.head) (bounds_in f.head) f.parts some
    go false = multipolygon_fits (flags_in f.head) (bounds_in f.head) f.parts some

-- ---- the call

pub call_accepts : (frame : List ℕ) (n : ℕ) → Accepted (read_call frame n) → Accepted (read_frame frame)
    × (frame_room answer_coord_size (read_frame frame) ≤ n)
call_accepts frame n a =
    let t = taken (read_call frame n) a in
    let c = call-read frame n t.value t.rest t.is in
    (rw c.0, rw c.0 c.1)

pub call_answers : (frame out out' : List ℕ) (r : ℕ) → Accepted (read_call frame (length out))
    → Answers (answer_read (read_frame frame)) out r out' → (Ok r ≡ frame_call_answer frame out) × (out' ≡ frame_call_output frame out)
call_answers frame out out' r a x = let t = taken (read_call frame (length out)) a in go t.value t.rest t.is
  where
    go : (f : Frame) (rest : List ℕ) → read_call frame (length out) ≡ read f rest
        → (Ok r ≡ frame_call_answer frame out) × (out' ≡ frame_call_output frame out)
    go f rest e =
        let c = call-read frame (length out) f rest e in
        let same : answer_read (read_frame frame) ≡ answer_to f = ap answer_read c.0 in
        let fits : length (frame_bytes f) ≤ length out = omega (arith, answer-fits f (parts-some frame f rest c.0), c.1) in
        (rw (e, x.count, same), x.output ∙ rw (e, same) (whole-over (frame_bytes f) out fits))

pub call_refuses : (x : Reading Frame) (r : FrameRefusal) (out : List ℕ) → check_of x ≡ Err r → (Err r ≡ answer_of_reading x)
    × (out ≡ output_of x out)
call_refuses (refused s) r out e = let same : s ≡ r = cc in (rw same, refl)
call_refuses (read f rest) r out e = absurd (let z : ◌≡◌ {A = ℕ} 0 1 = cc in omega arith)

-- an answer's count is small: it fits an i64
pub answered_few : (frame : List ℕ) (out n : ℕ) → answer_of_reading (read_call frame out) ≡ Ok n → n ≤ least_room + most_parts * most_part
unfolding output_room
answered_few frame out n q = go (read_call frame out) refl q
  where
    go : (x : Reading Frame) → read_call frame out ≡ x → answer_of_reading x ≡ Ok n → n ≤ least_room + most_parts * most_part
    go (refused r) e q = absurd (let z : ◌≡◌ {A = ℕ} 0 1 = cc in omega arith)
    go (read f rest) e q =
        let c = call-read frame out f rest e in
        let r = frame_read frame f rest c.0 in
        let same : length (frame_bytes f) ≡ n = cc in
        let most : total (part_room answer_coord_size) f.parts ≤ part_count_of frame * most_part =
        rw r.parts at (parts-le 0 (part_count_of frame) (drop head_bytes frame) (frame_parts frame (rw c.0))) in
        omega (arith, same, answer-fits f (parts-some frame f rest c.0), most, r.few)
