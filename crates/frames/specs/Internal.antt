-- What the functions that list the parts of a frame say to each other. No contract of an entry point reaches it, so a reader
-- of those can skip this file. Definitions only.
use Rattle.std.specs.Prelude.{◌≡◌, cond, true, Bool, not, ◌&&◌, ◌||◌, List, [], ℕ, ◌+◌, ◌*◌, ◌<◌, ◌≤◌, ◌-◌, ◌/◌, eqb, length, drop}
use Rattle.std.proofs.lemmas.List.Edits.{sets}
use Rattle.binary64.specs.Lists.{Every}
use Rattle.tile.specs.declared.Coord.{Coord}
use Rattle.tile.specs.declared.TileBounds.{TileBounds}
use Rattle.box_pairs.specs.Issue.{issue_of, has_issue}
use Rattle.rings.specs.declared.rectangle.Rect.{Rect}
use Rattle.rings.specs.declared.rectangle.Rect.TheVariants as Rects
use Rattle.rings.specs.Rectangle.{is_fully_inside}
use Rattle.rings.specs.LentRings.{total, exterior}
use Rattle.clip.specs.declared.polygon.Flags.{Flags}
use Rattle.clip.specs.Polygon as Polygon
use Rattle.clip.specs.Polygon.{answer_of, told}
use Rattle.frame_bytes.specs.declared.accepted.AcceptedFrame.{AcceptedFrame}
use Rattle.frame_bytes.specs.declared.head.Head.{Head}
use Rattle.frame_bytes.specs.Accepted.{frame_reading}
use Rattle.frame_bytes.specs.Frame.{polygon_kind, Frame, Reading, refused, read, read_many, read_part, most_parts}
use Rattle.frame_bytes.specs.Frame.{multipolygon_kind, head_bytes, head_of, most_in_ring}
use Rattle.sutherland_hodgman.specs.Growth.{B}
use Rattle.frame_bytes.specs.Room.{answer_coord_size, part_room, least_room}
use Rattle.frame_bytes.specs.Encoding.{each, header_bytes}
use Rattle.frame_bytes.specs.Internal.{Accepted, all_in, frame_room, frame_rect}
use Rattle.frame_parts.specs.declared.PartAnswer.{PartAnswer}
use Rattle.frame_parts.specs.declared.PartAnswer.TheVariants as PartAnswers
use Rattle.frame_parts.specs.Part.{Part, part_of, part_bytes}
use Rattle.frame_parts.specs.Internal.{uncut_part, measured_part, Lengths, Working, PositionsRoom}
use Rattle.frames.specs.declared.parts.ListedSoFar.{ListedSoFar}
use Rattle.frames.specs.Answer.{Answer, Nothing, Dropped, Unchanged, Listed, of_polygon, of_part, Listing, listed_before, list_parts}
use Rattle.frames.specs.Answer.{of_parts, flags_in, only_part, answer_to}
use Rattle.frames.specs.Output.{answer_byte, answer_bytes}

-- ---- all parts

-- what becomes of a part of a multipolygon, rect being taken for its rectangle
unfoldable pub route_part_as : Flags → Rect → TileBounds → List (List Coord) → Polygon.Routed
route_part_as flags rect b rings = of_part rect b (Polygon.route_measured flags rect b rings)

abbrev pub part_as : ℕ → Flags → Rect → TileBounds → List (List Coord) → Part
part_as index flags rect b rings = part_of index b rings (route_part_as flags rect b rings)

-- the k parts that begin at a position of the frame
abbrev pub parts_from : List ℕ → ℕ → ℕ → List (List (List Coord))
parts_from frame at k = all_in (read_many read_part k (drop at frame))

-- ---- all parts: what is listed

-- what is still to be written of a part that has this answer: all of an unchanged one, as the others are written or not listed
abbrev pub unchanged_bytes : ℕ → PartAnswer → List ℕ
unchanged_bytes i PartAnswers.Nothing = []
unchanged_bytes i PartAnswers.Dropped = []
unchanged_bytes i PartAnswers.Unchanged = part_bytes (uncut_part i Polygon.unchanged)
unchanged_bytes i (PartAnswers.Listed next) = []

-- the counts with one more part, and where the next part is written
abbrev pub with_part : PartAnswer → ListedSoFar → ListedSoFar
with_part PartAnswers.Nothing l = l
with_part PartAnswers.Dropped l = record { guard = l.guard + 1; parts = l.parts; next = l.next }
with_part PartAnswers.Unchanged l = record { guard = l.guard; parts = l.parts + 1; next = l.next + 4 }
with_part (PartAnswers.Listed next) l = record { guard = l.guard; parts = l.parts + 1; next = next }

-- the listed parts were written behind what stood there, and the counts went up by theirs
pub record Lists (listing : Listing) (so_far : ListedSoFar) (out : List ℕ) (r : ListedSoFar) (out' : List ℕ) : Type 0 where
  pub output : out' ≡ sets out so_far.next (each part_bytes listing.parts)
  pub next_after : r.next ≡ so_far.next + length (each part_bytes listing.parts)
  pub parts-after : r.parts ≡ so_far.parts + length listing.parts
  pub guard-after : r.guard ≡ so_far.guard + listing.guard

-- the listing of one part alone
abbrev pub listing_of : Part → Listing
listing_of part = record { guard = (told (answer_of part.outcome)).guards; parts = listed_before part [] }

-- the header and the length of the answer to a multipolygon, of which so much is listed
abbrev pub finished_header : ListedSoFar → List ℕ
finished_header l =
    cond (eqb l.parts 0) (header_bytes (answer_byte (Nothing l.guard)) l.guard 0)
    (header_bytes (answer_byte (Listed l.guard [])) l.guard l.parts)

abbrev pub finished_length : ListedSoFar → ℕ
finished_length l = cond (eqb l.parts 0) least_room l.next

-- the header and the length of the answer to a polygon, by what is answered of its only part
abbrev pub polygon_header : PartAnswer → List ℕ
polygon_header PartAnswers.Nothing = header_bytes (answer_byte (Nothing 0)) 0 0
polygon_header PartAnswers.Dropped = header_bytes (answer_byte Dropped) 1 0
polygon_header PartAnswers.Unchanged = header_bytes (answer_byte Unchanged) 0 0
polygon_header (PartAnswers.Listed next) = header_bytes (answer_byte (Listed 0 [])) 0 1

abbrev pub polygon_length : PartAnswer → ℕ
polygon_length PartAnswers.Nothing = least_room
polygon_length PartAnswers.Dropped = least_room
polygon_length PartAnswers.Unchanged = least_room
polygon_length (PartAnswers.Listed next) = next

abbrev pub of_listing : Listing → Answer
of_listing listing = of_parts listing.guard listing.parts

-- the bytes of an answer stand at the front of the output, and their count is answered
pub record Answers (answer : Answer) (out : List ℕ) (r : ℕ) (out' : List ℕ) : Type 0 where
  pub count : r ≡ length (answer_bytes answer)
  pub output : out' ≡ sets out 0 (answer_bytes answer)

-- ---- all parts: the room they need

-- at part i no count has passed i, and i is at most 256
pub record Few (i : ℕ) (l : ListedSoFar) : Type 0 where
  pub guards : l.guard ≤ i
  pub listed : l.parts ≤ i
  pub index : i ≤ most_parts

-- the working slices have room for a part, and the sweep has room for its positions
pub record Workable (lent : Lengths) (order : ℕ) (rings : List (List Coord)) : Type 0 where
  pub working : Working rings lent
  pub positions : PositionsRoom rings order

-- the frame has k parts from position `at` on, they can be cut, and they have room in the output from position `to` on
pub record PartsRoom (frame : List ℕ) (at k : ℕ) (lent : Lengths) (order out to : ℕ) : Type 0 where
  pub within : at ≤ length frame
  pub accepted : Accepted (read_many read_part k (drop at frame))
  pub workable : Every (Workable lent order) (parts_from frame at k)
  pub output : to + total (part_room answer_coord_size) (parts_from frame at k) ≤ out

-- ---- a frame

-- The parts of a frame, and its answer. The functions that cite these require an accepted frame; the case of a refused one is never looked
-- at.
abbrev pub parts_of : Reading Frame → List (List (List Coord))
parts_of (refused r) = []
parts_of (read f rest) = f.parts

abbrev pub answer_read : Reading Frame → Answer
answer_read (refused r) = Nothing 0
answer_read (read f rest) = answer_to f

-- the answer to a frame, rect being taken for the rectangle of a polygon; the parts of a multipolygon are measured one by one
abbrev pub answer_measured : Head → Rect → TileBounds → List (List (List Coord)) → Answer
answer_measured head rect b parts =
    cond (eqb head.kind polygon_kind) (of_polygon (measured_part 0 (flags_in head) rect b (only_part parts)))
    (of_listing (list_parts (flags_in head) b 0 parts))

-- "Whole rectangle inside: unchanged, with no issue check", of a multipolygon; "No issue and rectangle inside the bounds (edges included):
-- unchanged", of a polygon whose exterior is assumed to be simple
abbrev pub unchanged_at_once : Head → Rect → TileBounds → List (List (List Coord)) → Bool
unchanged_at_once head rect b parts =
    is_fully_inside rect b && (eqb head.kind multipolygon_kind ||
    (head.assume_simple && not (has_issue (issue_of true (exterior (only_part parts))))))

-- the longest frame of which every ring, closed, has at most m coordinates: a ring stands behind the head and two counts
abbrev pub longest_for : ℕ → ℕ
longest_for m = head_bytes + 4 + 16 * m - 1

-- arrays of these lengths have room for what is cut of a frame of so many bytes, as no ring of it, closed, has over `ring / 2` coordinates
pub record RoomFor (size ring work origins : ℕ) : Type 0 where
  pub short : size ≤ longest_for (ring / 2)
  pub small : ring / 2 ≤ most_in_ring + 1
  pub origin-room : origins ≡ B (ring / 2)
  pub work-room : work ≡ 2 * origins

-- the frame has the parts that its head says, they can be cut, and they have room in the output
pub record PartsReady (frame : List ℕ) (head : Head) (lent : Lengths) (order out : ℕ) : Type 0 where
  pub room : PartsRoom frame head_bytes head.parts lent order out least_room
  pub few : head.parts ≤ most_parts
  pub some : eqb head.kind polygon_kind ≡ true → 0 < head.parts

-- a frame's head is read, and its answer has room
pub record Answerable (frame : AcceptedFrame) (head : Head) (out : ℕ) : Type 0 where
  pub head_read : head ≡ head_of frame.bytes.now
  pub output : frame_room answer_coord_size (frame_reading frame) ≤ out

-- such a frame without a coordinate that is NaN or infinite
pub record Cuttable (frame : AcceptedFrame) (head : Head) (out : ℕ) : Type 0 where
  pub answerable : Answerable frame head out
  pub finite : frame_rect (frame_reading frame) ≡ Rects.NotFinite → ⊥
