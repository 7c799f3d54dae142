-- Listing the parts of a frame one after the other: each is there and has room, and what is listed with what is left to list is always the
-- same. Assumes nothing.
use mathlib.Core.Path.{◌≡◌, refl, sym, ◌∙◌, ap, subst}
use mathlib.Core.Bool.{Bool, true, false, cond}
use mathlib.Core.List.{List, [], ◌∷◌, ◌++◌, append-nil}
use Prim.Native.Nat.{ℕ, zero, suc, ◌+◌, ◌-◌, ◌<◌, ◌≤◌}
use native.Mathlib.Omega.{arith}
use borrow.Author.Tests.{eq-eqb, ne_eqb}
use lib.Dec.{eqb}
use lib.ListN.{length, drop, length-append, length-drop}
use lib.Seq.{sets}
use Rattle.binary64.specs.Lists.{Every}
use Rattle.binary64.proofs.Fill.{sets_append}
use Rattle.tile.specs.declared.Coord.{Coord}
use Rattle.tile.specs.declared.TileBounds.{TileBounds}
use Rattle.rings.specs.declared.rectangle.Rect.{Rect}
use Rattle.rings.specs.declared.rectangle.Rect.TheVariants as Rects
use Rattle.rings.specs.Rectangle.{rectangle, intersects_bounds, is_fully_inside}
use Rattle.rings.specs.LentRings.{total, exterior}
use Rattle.clip.specs.declared.polygon.Flags.{Flags}
use Rattle.clip.specs.declared.polygon.Route.TheVariants as Routes
use Rattle.clip.specs.Polygon as Polygon
use Rattle.clip.specs.Polygon.{answer_of, told}
use Rattle.frame_bytes.specs.Frame.{Reading, read, most_parts, read_part, read_many}
use Rattle.frame_bytes.specs.Internal.{Accepted, all_in, part_at, measured_of}
use Rattle.frame_bytes.specs.Room.{answer_coord_size, part_room}
use Rattle.frame_bytes.specs.Encoding.{each, header_bytes}
use Rattle.frame_bytes.proofs.Readings.{taken, part_reads}
use Rattle.frame_bytes.proofs.Places.{step}
use Rattle.frame_bytes.proofs.Writing.{sets_before, each_append, length_header}
use Rattle.frame_parts.specs.Part.{Part, part_of, part_bytes}
use Rattle.frame_parts.specs.Internal.{uncut_part, written_part, part_answer, Lengths, PartRoom, PositionsRoom}
use Rattle.frame_parts.proofs.CutParts.{some-rings, uncut_length, bytes_fit}
use Rattle.frames.specs.declared.parts.ListedSoFar.{ListedSoFar}
use Rattle.frames.specs.Answer.{Answer, Nothing, Dropped, Unchanged, Listed, of_polygon, route_part, is_listed, listed_before, Listing}
use Rattle.frames.specs.Answer.{add_part, list_parts, of_parts}
use Rattle.frames.specs.Output.{answer_bytes}
use Rattle.frames.specs.Internal.{route_part_as, part_as, parts_from, unchanged_bytes, with_part, Lists, listing_of, finished_header}
use Rattle.frames.specs.Internal.{finished_length, polygon_header, polygon_length, Answers, Few, Workable, PartsRoom}

-- ---- a part of a multipolygon, by its rectangle

pub routed-as : (flags : Flags) (b : TileBounds) (rings : List (List Coord)) → route_part_as flags (rectangle rings) b rings
    ≡ route_part flags b rings
unfolding route_part_as route_part Polygon.route Polygon.route_rect intersects_bounds
routed-as flags b rings = go (rectangle rings)
  where
    go : (r : Rect) → cond (intersects_bounds r b) (cond (is_fully_inside r b) Polygon.unchanged (Polygon.route_measured flags r b rings))
        Polygon.nothing ≡ cond (intersects_bounds r b) (cond (is_fully_inside r b) Polygon.unchanged (Polygon.route_rect flags r b rings))
        Polygon.nothing
    go Rects.Nothing = refl
    go Rects.NotFinite = refl
    go (Rects.Box w s e n) = refl

-- ---- one part listed, or not

unchanged-length : (i : ℕ) → length (part_bytes (uncut_part i Polygon.unchanged)) ≡ 4
unchanged-length i = uncut_length (uncut_part i Polygon.unchanged) refl

-- a part of which this becomes; one that is unchanged is written without its origins, of which it has none
abbrev part_with : ℕ → List (List ℕ) → Polygon.Routed → Part
part_with i origins to = record { index = i; outcome = to; origins = origins }

unchanged-bytes : (i : ℕ) (origins : List (List ℕ)) → part_bytes (part_with i origins Polygon.unchanged) ≡ part_bytes
    (uncut_part i Polygon.unchanged)
unfolding part_bytes
unchanged-bytes i origins = refl

module _ (i : ℕ) (origins : List (List ℕ)) (l : ListedSoFar) (out : List ℕ) where
  pub listed-part : (to : Polygon.Routed) → Lists (listing_of (part_with i origins to)) l out
      (with_part (part_answer l.next (part_with i origins to)) l)
      (sets (sets out l.next (written_part (part_with i origins to))) l.next
      (unchanged_bytes i (part_answer l.next (part_with i origins to))))
  unfolding each
  listed-part Polygon.nothing =
      record { output = refl; next_after = omega arith; parts-after = omega arith; guard-after = omega arith }
  listed-part Polygon.dropped =
      record { output = refl; next_after = omega arith; parts-after = omega arith; guard-after = omega arith }
  listed-part Polygon.unchanged = record {
    output = rw (append-nil (part_bytes (part_with i origins Polygon.unchanged)), unchanged-bytes i origins);
    next_after =
        omega (
          arith,
          length-append (part_bytes (part_with i origins Polygon.unchanged)) [],
          ap length (unchanged-bytes i origins),
          unchanged-length i,
        );
    parts-after = omega arith;
    guard-after = omega arith;
  }
  listed-part (Polygon.cut rings) = record {
    output = rw (append-nil (part_bytes (part_with i origins (Polygon.cut rings))));
    next_after = omega (arith, length-append (part_bytes (part_with i origins (Polygon.cut rings))) []);
    parts-after = omega arith;
    guard-after = omega arith;
  }
  listed-part (Polygon.overlay reason) = record {
    output = rw (append-nil (part_bytes (part_with i origins (Polygon.overlay reason))));
    next_after = omega (arith, length-append (part_bytes (part_with i origins (Polygon.overlay reason))) []);
    parts-after = omega arith;
    guard-after = omega arith;
  }

-- ---- what is listed, and what is left to list

pub listed-append : (part : Part) (parts : List Part) → listed_before part parts ≡ listed_before part [] ++ parts
listed-append part parts = go (is_listed part.outcome)
  where
    go : (t : Bool) → cond t (part ∷ parts) parts ≡ cond t (part ∷ []) [] ++ parts
    go true = refl
    go false = refl

pub record AheadParts (x : Listing) (l : ListedSoFar) (out : List ℕ) (y : Listing) (l' : ListedSoFar) (out' : List ℕ) : Type 0 where
  pub output : sets out l.next (each part_bytes x.parts) ≡ sets out' l'.next (each part_bytes y.parts)
  pub next : l.next + length (each part_bytes x.parts) ≡ l'.next + length (each part_bytes y.parts)
  pub counts : l.parts + length x.parts ≡ l'.parts + length y.parts
  pub guards : l.guard + x.guard ≡ l'.guard + y.guard

pub parts_start : (x : Listing) (l : ListedSoFar) (out : List ℕ) → AheadParts x l out x l out
parts_start x l out = record { output = refl; next = refl; counts = refl; guards = refl }

pub parts_then : {x y z : Listing} {l l' l'' : ListedSoFar} {o o' o'' : List ℕ} → AheadParts x l o y l' o' → AheadParts y l' o' z l'' o''
    → AheadParts x l o z l'' o''
parts_then f g =
    record { output = f.output ∙ g.output; next = f.next ∙ g.next; counts = f.counts ∙ g.counts; guards = f.guards ∙ g.guards }

pub parts-one : (part : Part) (y : Listing) (l l' : ListedSoFar) (out out' : List ℕ) → Lists (listing_of part) l out l' out'
    → AheadParts (add_part part y) l out y l' out'
parts-one part y l l' out out' p =
    let f = part_bytes in
    let x = listed_before part [] in
    let a = listed-append part y.parts in
    let e : each f (listed_before part y.parts) ≡ each f x ++ each f y.parts = rw a (each_append f x y.parts) in
    record {
      output = rw (e, sets_append out l.next (each f x) (each f y.parts), ← p.next_after, ← p.output);
      next = omega (arith, ap length e, length-append (each f x) (each f y.parts), p.next_after);
      counts = omega (arith, ap length a, length-append x y.parts, p.parts-after);
      guards = omega (arith, p.guard-after);
    }

pub parts_none : (flags : Flags) (b : TileBounds) (i : ℕ) (x : Listing) (l l' : ListedSoFar) (out out' : List ℕ)
    → AheadParts x l out (list_parts flags b i []) l' out' → Lists x l out l' out'
unfolding list_parts each
parts_none flags b i x l l' out out' f =
    record {
      output = sym f.output;
      next_after = omega (arith, f.next);
      parts-after = omega (arith, f.counts);
      guard-after =
          omega (arith, f.guards);
    }

-- ---- the room of a part's bytes

-- where it is not listed it has none
listed-length : (part : Part) → length (each part_bytes (listed_before part [])) ≤ length (part_bytes part)
unfolding each
listed-length part = go (is_listed part.outcome)
  where
    go : (t : Bool) → length (each part_bytes (cond t (part ∷ []) [])) ≤ length (part_bytes part)
    go true = omega (arith, length-append (part_bytes part) [])
    go false = omega arith

pub listed-fits : (i : ℕ) (b : TileBounds) (rings : List (List Coord)) → 0 < length rings → (flags : Flags) (rect : Rect)
    → length (each part_bytes (listed_before (part_as i flags rect b rings) [])) ≤ part_room answer_coord_size rings
unfolding route_part_as
listed-fits i b rings some flags rect = omega (
  arith,
  listed-length (part_as i flags rect b rings),
  go (intersects_bounds rect b) (is_fully_inside rect b),
)
  where
    go : (s t : Bool) → length (part_bytes
        (part_of i b rings (cond s (cond t Polygon.unchanged (Polygon.route_measured flags rect b rings)) Polygon.nothing)))
        ≤ part_room answer_coord_size rings
    go false t = bytes_fit i b rings some Routes.Nothing
    go true true = bytes_fit i b rings some Routes.Unchanged
    go true false = bytes_fit i b rings some (Polygon.route_exterior flags rect b (exterior rings))

-- ---- the next of so many parts

-- where the part at a place ends, as it is measured
abbrev pub next_place : List ℕ → ℕ → ℕ
next_place frame at = (measured_of (length frame) Rects.Nothing (read_part (drop at frame))).next

pub record NextPart (frame : List ℕ) (at k : ℕ) : Type 0 where
  pub accepted : Accepted (read_part (drop at frame))
  pub rect : (measured_of (length frame) Rects.Nothing (read_part (drop at frame))).rect ≡ rectangle (part_at frame at)
  pub forward : at ≤ next_place frame at
  pub within : next_place frame at ≤ length frame
  pub here : parts_from frame at k ≡ part_at frame at ∷ parts_from frame (next_place frame at) (k - 1)
  pub later : Accepted (read_many read_part (k - 1) (drop (next_place frame at) frame))

pub next_part : (frame : List ℕ) (at k : ℕ) → at ≤ length frame → 0 < k → Accepted (read_many read_part k (drop at frame))
    → NextPart frame at k
next_part frame at k h pos a = let t = taken (read_many read_part k (drop at frame)) a in go t.value t.rest t.is
  where
    go : (all : List (List (List Coord))) (rest : List ℕ) → read_many read_part k (drop at frame) ≡ read all rest → NextPart frame at k
    go all rest e =
        let s = step read_part part_reads frame at k all rest h pos e in
        let f = s.first in
        let n : next_place frame at ≡ s.next = ap (λ (x : Reading (List (List Coord))). (measured_of (length frame) Rects.Nothing x).next)
        f ∙ omega (arith, length-drop s.next frame, s.within) in
        let p : part_at frame at ≡ s.value = ap all_in f in
        let l : read_many read_part (k - 1) (drop (next_place frame at) frame) ≡ read s.others rest = rw n s.later in
        record {
          accepted = rw f;
          rect = ap (λ (x : Reading (List (List Coord))). (measured_of (length frame) Rects.Nothing x).rect) f ∙ rw p;
          forward = rw n s.forward;
          within = rw n s.within;
          here = ap all_in e ∙ s.whole ∙ rw (p, l);
          later = rw l;
        }

module _ (flags : Flags) (bounds : TileBounds) (frame : List ℕ) (at k : ℕ) (lent : Lengths) (order out to : ℕ) (h : 0 < k)
    (room : PartsRoom frame at k lent order out to) where
  pub part_next : NextPart frame at k
  part_next = next_part frame at k room.within h room.accepted

  output-here : to + total (part_room answer_coord_size) (part_at frame at ∷ parts_from frame (next_place frame at) (k - 1)) ≤ out
  output-here = rw part_next.here at room.output

  workable-here : Workable lent order (part_at frame at) × Every (Workable lent order) (parts_from frame (next_place frame at) (k - 1))
  workable-here = subst (Every (Workable lent order)) part_next.here room.workable

  pub part_room_lem : PartRoom (part_at frame at) lent out to
  unfolding total
  part_room_lem =
      record {
        working = workable-here.0.working;
        output = omega (arith, output-here);
      }

  pub positions-room : PositionsRoom (part_at frame at) order
  positions-room = workable-here.0.positions

  pub parts-room : (i : ℕ) (rect : Rect) (to' : ℕ)
      → to' ≡ to + length (each part_bytes (listed_before (part_as i flags rect bounds (part_at frame at)) []))
      → PartsRoom frame (next_place frame at) (k - 1) lent order out to'
  unfolding total
  parts-room i rect to' e =
      record {
        within = part_next.within;
        accepted = part_next.later;
        workable = workable-here.1;
        output =
            omega (
              arith,
              output-here,
              listed-fits i bounds (part_at frame at) (some-rings frame at room.within part_next.accepted) flags rect,
            );
      }

  -- what the part and those behind it list
  pub listing_here : (i : ℕ) → list_parts flags bounds i (parts_from frame at k) ≡ add_part
      (part_as i flags (rectangle (part_at frame at)) bounds (part_at frame at))
      (list_parts flags bounds (suc i) (parts_from frame (next_place frame at) (k - 1)))
  unfolding list_parts
  listing_here i = rw (part_next.here, routed-as flags bounds (part_at frame at))

-- the slices have kept their lengths
pub same-parts-room : {frame : List ℕ} {at k to order out order' out' : ℕ} {lent lent' : Lengths} → lent' ≡ lent → order' ≡ order
    → out' ≡ out → PartsRoom frame at k lent order out to → PartsRoom frame at k lent' order' out' to
same-parts-room el eo eu r = rw (el, eo, eu) r

pub parts_end : (frame : List ℕ) (at k : ℕ) → k ≤ 0 → parts_from frame at k ≡ []
unfolding read_many
parts_end frame at zero h = refl
parts_end frame at (suc k) h = absurd (omega arith)

pub few-one : (part : Part) → (length (listed_before part []) ≤ 1) × ((told (answer_of part.outcome)).guards ≤ 1)
few-one part = (listed (is_listed part.outcome), guards part.outcome)
  where
    listed : (t : Bool) → length (cond t (part ∷ []) []) ≤ 1
    listed true = omega arith
    listed false = omega arith

    guards : (to : Polygon.Routed) → (told (answer_of to)).guards ≤ 1
    guards Polygon.nothing = omega arith
    guards Polygon.dropped = omega arith
    guards Polygon.unchanged = omega arith
    guards (Polygon.cut rings) = omega arith
    guards (Polygon.overlay reason) = omega arith

pub few_next : (i : ℕ) (part : Part) (l r : ListedSoFar) (out out' : List ℕ) → Few i l → suc i ≤ most_parts
    → Lists (listing_of part) l out r out' → Few (suc i) r
few_next i part l r out out' f h p =
    let o = few-one part in record {
      guards = omega (arith, f.guards, p.guard-after);
      listed =
          omega (arith, f.listed, p.parts-after);
      index = h;
    }

-- ---- the answer's bytes, header and all

header_before : (out h r : List ℕ) → length h ≡ 5 → sets (sets out 5 r) 0 h ≡ sets out 0 (h ++ r)
header_before out h r e = let n : 5 ≡ 0 + length h = omega arith in rw n (sets_before out 0 h r)

pub finished : (guard : ℕ) (parts : List Part) (l : ListedSoFar) (out out₁ out₂ : List ℕ) (r : ℕ)
    → Lists (record { guard = guard; parts = parts }) (record { guard = 0; parts = 0; next = 5 }) out l out₁
    → r ≡ finished_length l → out₂ ≡ sets out₁ 0 (finished_header l) → Answers (of_parts guard parts) out r out₂
unfolding answer_bytes each
finished guard [] l out out₁ out₂ r p hr ho =
    let n : eqb l.parts 0 ≡ true = eq-eqb l.parts 0 (omega (arith, p.parts-after)) in
    let g : l.guard ≡ guard = omega (arith, p.guard-after) in
    record { count = hr ∙ rw n (sym (length_header 0 guard 0)); output = ho ∙ rw (n, g, p.output) }
finished guard (part ∷ parts) l out out₁ out₂ r p hr ho =
    let n : eqb l.parts 0 ≡ false = ne_eqb l.parts 0 (λ e. omega (arith, p.parts-after)) in
    let g : l.guard ≡ guard = omega (arith, p.guard-after) in
    let k : l.parts ≡ length (part ∷ parts) = omega (arith, p.parts-after) in
    let h = header_bytes 3 guard (length (part ∷ parts)) in
    let body = each part_bytes (part ∷ parts) in
    record {
      count = hr ∙ rw n (omega (arith, p.next_after, length-append h body, length_header 3 guard (length (part ∷ parts))));
      output = ho ∙ rw (n, g, k, p.output) (header_before out h body (length_header 3 guard (length (part ∷ parts))));
    }

-- ---- a polygon's answer

module _ (out out₁ out₂ : List ℕ) (r : ℕ) where
  pub alone : (number guard : ℕ) (answer : Answer) → answer_bytes answer ≡ header_bytes number guard 0 → out₁ ≡ out → r ≡ 5
      → out₂ ≡ sets out₁ 0 (header_bytes number guard 0) → Answers answer out r out₂
  alone number guard answer e h hr ho = record { count = hr ∙ rw e (sym (length_header number guard 0)); output = ho ∙ rw (h, e) }

  listed-alone : (part : Part) → out₁ ≡ sets out 5 (part_bytes part) → r ≡ 5 + length (part_bytes part)
      → out₂ ≡ sets out₁ 0 (header_bytes 3 0 1) → Answers (Listed 0 (part ∷ [])) out r out₂
  unfolding answer_bytes each
  listed-alone part h hr ho =
      let body = part_bytes part in
      let n = append-nil body in
      record {
        count = hr ∙ omega (arith, length-append (header_bytes 3 0 1) (body ++ []), length_header 3 0 1, ap length n);
        output = ho ∙ rw (h, n) (header_before out (header_bytes 3 0 1) body (length_header 3 0 1));
      }

  module _ (origins : List (List ℕ)) where
    pub polygon_answers : (to : Polygon.Routed) → out₁ ≡ sets out 5 (written_part (part_with 0 origins to))
        → r ≡ polygon_length (part_answer 5 (part_with 0 origins to)) → out₂ ≡ sets out₁ 0 (polygon_header (part_answer 5 (part_with 0 origins
        to)))
        → Answers (of_polygon (part_with 0 origins to)) out r out₂
    unfolding answer_bytes
    polygon_answers Polygon.nothing h hr ho = alone 0 0 (Nothing 0) refl h hr ho
    polygon_answers Polygon.dropped h hr ho = alone 1 1 Dropped refl h hr ho
    polygon_answers Polygon.unchanged h hr ho = alone 2 0 Unchanged refl h hr ho
    polygon_answers (Polygon.cut rings) h hr ho = listed-alone (part_with 0 origins (Polygon.cut rings)) h hr ho
    polygon_answers (Polygon.overlay reason) h hr ho = listed-alone (part_with 0 origins (Polygon.overlay reason)) h hr ho
