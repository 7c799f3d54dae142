-- What the functions that route, cut and write a part of a frame say to each other and to the crate above. No contract of an entry point
-- reaches it, so a reader of those can skip this file. Definitions only.
use Rattle.std.specs.Prelude.{◌≡◌, cond, true, false, Bool, List, [], ℕ, ◌+◌, ◌*◌, ◌<◌, ◌≤◌, length, take, drop, Float}
use Rattle.std.proofs.lemmas.List.Edits.{sets}
use Rattle.tile.specs.declared.Coord.{Coord}
use Rattle.tile.specs.declared.TileBounds.{TileBounds}
use Rattle.tile.specs.Internal.{Stands}
use Rattle.sutherland_hodgman.specs.Growth.{B}
use Rattle.rings.specs.LentRings.{largest, total, ring_room, exterior}
use Rattle.rings.specs.Internal.{all_closed}
use Rattle.rings.specs.declared.rectangle.Rect.{Rect}
use Rattle.clip.specs.declared.polygon.Flags.{Flags}
use Rattle.clip.specs.declared.polygon.Route.{Route}
use Rattle.clip.specs.Polygon as Polygon
use Rattle.clip.specs.Origins as Origins
use Rattle.frame_bytes.specs.Frame.{most_in_ring, read_ring, read_many}
use Rattle.frame_bytes.specs.Room.{answer_coord_size, part_room}
use Rattle.frame_bytes.specs.Encoding.{each, AnswerCoord, answer_coord_bytes, with_origins, rings_with_origins, ring_bytes}
use Rattle.frame_bytes.specs.Internal.{Accepted, rings_from}
use Rattle.frame_parts.specs.declared.PartAnswer.{PartAnswer}
use Rattle.frame_parts.specs.declared.PartAnswer.TheVariants as PartAnswers
use Rattle.frame_parts.specs.declared.RingCursor.{RingCursor}
use Rattle.frame_parts.specs.Part.{Part, part_of, part_bytes}

-- ---- what is answered and written

-- the part of these rings whose exterior has this route; with rect taken for its rectangle; and where it is cut
abbrev pub routed_part : ℕ → Route → TileBounds → List (List Coord) → Part
routed_part index route b rings = part_of index b rings (Polygon.routed route b rings)

abbrev pub measured_part : ℕ → Flags → Rect → TileBounds → List (List Coord) → Part
measured_part index flags rect b rings = part_of index b rings (Polygon.route_measured flags rect b rings)

abbrev pub cut_part : ℕ → TileBounds → List (List Coord) → Part
cut_part index b rings = part_of index b rings (Polygon.cut (Polygon.cut_rings b rings))

-- a part that is not cut has no origins
abbrev pub uncut_part : ℕ → Polygon.Routed → Part
uncut_part index outcome = record { index = index; outcome = outcome; origins = [] }

-- whether routing a part writes it; one that is unchanged is listed, but is left to be written
abbrev pub is_written : Polygon.Routed → Bool
is_written Polygon.nothing = false
is_written Polygon.dropped = false
is_written Polygon.unchanged = false
is_written (Polygon.cut rings) = true
is_written (Polygon.overlay reason) = true

-- the bytes that routing a part writes
abbrev pub written_part : Part → List ℕ
written_part part = cond (is_written part.outcome) (part_bytes part) []

-- what is answered of a part of which this becomes, `next` being where it ends in the output if it is written
abbrev pub answer_of_outcome : ℕ → Polygon.Routed → PartAnswer
answer_of_outcome next Polygon.nothing = PartAnswers.Nothing
answer_of_outcome next Polygon.dropped = PartAnswers.Dropped
answer_of_outcome next Polygon.unchanged = PartAnswers.Unchanged
answer_of_outcome next (Polygon.cut rings) = PartAnswers.Listed next
answer_of_outcome next (Polygon.overlay reason) = PartAnswers.Listed next

-- what is answered of a part that is written from position `to` of the output on
abbrev pub part_answer : ℕ → Part → PartAnswer
part_answer to part = answer_of_outcome (to + length (part_bytes part)) part.outcome

-- the rings of a cut, each coordinate with its origin: the exterior, a hole, all holes, and all rings
abbrev pub exterior_vertices : TileBounds → List Coord → List AnswerCoord
exterior_vertices b r = with_origins (Polygon.cut_exterior b r) (Origins.exterior_origins b r)

abbrev pub hole_vertices : TileBounds → List Coord → List AnswerCoord
hole_vertices b r = with_origins (Polygon.cut_hole b r) (Origins.hole_origins b r)

abbrev pub holes_vertices : TileBounds → List (List Coord) → List (List AnswerCoord)
holes_vertices b rings = rings_with_origins (Polygon.cut_holes b rings) (Origins.holes_origins b rings)

abbrev pub cut_vertices : TileBounds → List (List Coord) → List (List AnswerCoord)
cut_vertices b rings = rings_with_origins (Polygon.cut_rings b rings) (Origins.cut_origins b rings)

-- rings were written behind those that stood there, and the cursor stands behind them
pub record PutRings (rings : List (List AnswerCoord)) (at : RingCursor) (out : List ℕ) (r : RingCursor) (out' : List ℕ) : Type 0 where
  pub output : out' ≡ sets out at.next (each (ring_bytes answer_coord_bytes) rings)
  pub next_after : r.next ≡ at.next + length (each (ring_bytes answer_coord_bytes) rings)
  pub rings-after : r.rings ≡ at.rings + length rings

-- ---- the working slices

-- how long they are: one for a ring as it is read, two for cutting it, and beside each of the two one for origins
pub record Lengths : Type 0 where
  pub ring : ℕ
  pub a : ℕ
  pub a-origins : ℕ
  pub b : ℕ
  pub b-origins : ℕ

abbrev pub lengths_of : List Float → List Float → List ℕ → List Float → List ℕ → Lengths
lengths_of ring a a-origins b b-origins =
    record { ring = length ring; a = length a; a-origins = length a-origins; b = length b; b-origins = length b-origins }

-- They have room for each of the rings. No first coordinate holds a NaN, so that closing closes every ring.
pub record Working (rings : List (List Coord)) (lent : Lengths) : Type 0 where
  pub small : largest length rings ≤ most_in_ring + 1
  pub closes : all_closed rings ≡ true
  pub ring-room : 2 * largest length rings ≤ lent.ring
  pub a-room : 2 * B (largest length rings) ≤ lent.a
  pub a-origin-room : B (largest length rings) ≤ lent.a-origins
  pub b-room : 2 * B (largest length rings) ≤ lent.b
  pub b-origin-room : B (largest length rings) ≤ lent.b-origins

-- ---- the room of a part

-- the frame has k rings from position `at` on, they can be cut, and they have room in the output behind what is written
pub record RingsRoom (frame : List ℕ) (at k : ℕ) (lent : Lengths) (out : ℕ) (placed : RingCursor) : Type 0 where
  pub within : at ≤ length frame
  pub accepted : Accepted (read_many read_ring k (drop at frame))
  pub working : Working (rings_from frame at k) lent
  pub output : placed.next + (2 * length (rings_from frame at k) + answer_coord_size * total ring_room (rings_from frame at k)) ≤ out

-- the rings of a part can be cut, and they have room in the output from position `to` on
pub record PartRoom (rings : List (List Coord)) (lent : Lengths) (out to : ℕ) : Type 0 where
  pub working : Working rings lent
  pub output : to + part_room answer_coord_size rings ≤ out

-- the sweep has room for the positions of each ring of the part, cut or not
abbrev pub PositionsRoom : List (List Coord) → ℕ → Type 0
PositionsRoom rings order = B (largest length rings) ≤ order

-- the cut exterior of a part, m coordinates long, stands at the front of a slice, and its origins at the front of another
pub record ExteriorStands (bounds : TileBounds) (rings : List (List Coord)) (m : ℕ) (numbers : List Float) (origins : List ℕ) : Type 0 where
  pub ring : Stands (Polygon.cut_exterior bounds (exterior rings)) m numbers
  pub ring-origins : take m origins ≡ Origins.exterior_origins bounds (exterior rings)
  pub some : 0 < m
