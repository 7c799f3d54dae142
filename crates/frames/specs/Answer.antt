-- What a frame call answers, as a value (document 01, "Multipolygons"; for a polygon, "Nothing, or dropped" to "Overlay wanted").
-- Definitions only.
use Rattle.std.specs.Prelude.{Bool, true, false, cond, List, [], ◌∷◌, ℕ, suc, ◌+◌, eqb, get_or}
use Rattle.tile.specs.declared.Coord.{Coord}
use Rattle.tile.specs.declared.TileBounds.{TileBounds}
use Rattle.tile.specs.Bounds.{buffered}
use Rattle.rings.specs.declared.rectangle.Rect.{Rect}
use Rattle.rings.specs.declared.rectangle.Rect.TheVariants as Rects
use Rattle.rings.specs.Rectangle.{rectangle, intersects_bounds, is_fully_inside, with_parts}
use Rattle.clip.specs.declared.polygon.Flags.{Flags}
use Rattle.clip.specs.Polygon as Polygon
use Rattle.clip.specs.Polygon.{answer_of, told}
use Rattle.frame_bytes.specs.declared.head.Head.{Head}
use Rattle.frame_bytes.specs.Frame.{polygon_kind, Frame}
use Rattle.frame_parts.specs.Part.{Part, part_of}

-- "(0 nothing, 1 whole dropped, 2 whole unchanged, 3 listed), guard count", listed parts: a number here is the guard count, which is 1
-- where the whole is dropped and 0 where it is unchanged
pub data Answer : Type 0 where
  Nothing : ℕ → Answer
  Dropped : Answer
  Unchanged : Answer
  Listed : ℕ → List Part → Answer

-- ---- a polygon: "A polygon's cut or overlay is listed as part 0."

-- by what becomes of it, `listed` being the answer that lists it
abbrev pub of_outcome : Polygon.Routed → Answer → Answer
of_outcome Polygon.nothing listed = Nothing 0
of_outcome Polygon.dropped listed = Dropped
of_outcome Polygon.unchanged listed = Unchanged
of_outcome (Polygon.cut rings) listed = listed
of_outcome (Polygon.overlay reason) listed = listed

abbrev pub of_polygon : Part → Answer
of_polygon part = of_outcome part.outcome (Listed 0 (part ∷ []))

-- ---- a multipolygon

-- "Otherwise part by part: no coordinate or apart, left out; inside, unchanged with no issue check; else as a polygon": rect
-- is the part's rectangle, and `as-polygon` what becomes of it as a polygon
abbrev pub of_part : Rect → TileBounds → Polygon.Routed → Polygon.Routed
of_part rect b as-polygon = cond (intersects_bounds rect b) (cond (is_fully_inside rect b) Polygon.unchanged as-polygon) Polygon.nothing

unfoldable pub route_part : Flags → TileBounds → List (List Coord) → Polygon.Routed
route_part flags b rings = of_part (rectangle rings) b (Polygon.route flags b rings)

-- the guard count and the listed parts
pub record Listing : Type 0 where
  pub guard : ℕ
  pub parts : List Part

-- what is left out or dropped is not listed
abbrev pub is_listed : Polygon.Routed → Bool
is_listed Polygon.nothing = false
is_listed Polygon.dropped = false
is_listed Polygon.unchanged = true
is_listed (Polygon.cut rings) = true
is_listed (Polygon.overlay reason) = true

abbrev pub listed_before : Part → List Part → List Part
listed_before part parts = cond (is_listed part.outcome) (part ∷ parts) parts

-- "Guard counts add up."
abbrev pub add_part : Part → Listing → Listing
add_part part l = record { guard = (told (answer_of part.outcome)).guards + l.guard; parts = listed_before part l.parts }

-- the parts from the i-th on
unfoldable pub list_parts : Flags → TileBounds → ℕ → List (List (List Coord)) → Listing
list_parts flags b i [] = record { guard = 0; parts = [] }
list_parts flags b i (part ∷ parts) = add_part (part_of i b part (route_part flags b part)) (list_parts flags b (suc i) parts)

-- "No part listed: nothing, with that count."
abbrev pub of_parts : ℕ → List Part → Answer
of_parts guard [] = Nothing guard
of_parts guard (part ∷ parts) = Listed guard (part ∷ parts)

-- "No coordinate at all: nothing. One non-finite coordinate: the whole is dropped, count 1."
abbrev pub if_box : Rect → Answer → Answer
if_box Rects.Nothing answer = Nothing 0
if_box Rects.NotFinite answer = Dropped
if_box (Rects.Box w s e n) answer = answer

-- "Whole rectangle apart: nothing. Whole rectangle inside: unchanged, with no issue check."
unfoldable pub of_multipolygon : Flags → TileBounds → List (List (List Coord)) → Answer
of_multipolygon flags b parts =
    let whole = with_parts Rects.Nothing parts in
    let listing = list_parts flags b 0 parts in
    if_box whole (cond (intersects_bounds whole b) (cond (is_fully_inside whole b) Unchanged
    (of_parts listing.guard listing.parts)) (Nothing 0))

-- ---- a frame

abbrev pub flags_in : Head → Flags
flags_in head = record { assume_simple = head.assume_simple; skip_boundary_fallback = head.skip_boundary_fallback }

abbrev pub bounds_in : Head → TileBounds
bounds_in head = buffered head.bounds head.buffer

-- a polygon's only part, and what becomes of it
abbrev pub only_part : List (List (List Coord)) → List (List Coord)
only_part parts = get_or parts 0 []

abbrev pub route_polygon : Flags → TileBounds → List (List Coord) → Part
route_polygon flags b rings = part_of 0 b rings (Polygon.route flags b rings)

unfoldable pub answer_to : Frame → Answer
answer_to f =
    let flags = flags_in f.head in
    let bounds = bounds_in f.head in
    cond (eqb f.head.kind polygon_kind) (of_polygon (route_polygon flags bounds (only_part f.parts)))
    (of_multipolygon flags bounds f.parts)
