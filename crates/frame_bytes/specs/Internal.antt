-- What the functions that walk over a frame and those that write an answer say to each other and to the crates above. No contract of an
-- entry point reaches it, so a reader of those can skip this file. Definitions only.
use Rattle.std.specs.Prelude.{◌≡◌, Bool, true, false, not, List, [], ℕ, ◌*◌, ◌-◌, Float, length, take, drop}
use Rattle.std.specs.Prelude.{Result, Ok, Err, ⊤, MatchResult, zero, suc}
use Rattle.tile.specs.declared.Coord.{Coord}
use Rattle.tile.specs.Ring.{coords}
use Rattle.box_pairs.specs.Issue.{issue_of, has_issue}
use Rattle.rings.specs.declared.rectangle.Rect.{Rect}
use Rattle.rings.specs.declared.rectangle.Rect.TheVariants as Rects
use Rattle.rings.specs.LentRings.{exterior}
use Rattle.rings.specs.Rectangle.{with_rings, with_parts}
use Rattle.rings.specs.Representable.{any_huge_ring}
use Rattle.frame_bytes.specs.declared.reader.FrameRefusal.{FrameRefusal}
use Rattle.frame_bytes.specs.declared.room.MeasuredRoom.{MeasuredRoom}
use Rattle.frame_bytes.specs.declared.measure.Measured.{Measured}
use Rattle.frame_bytes.specs.Frame.{Reading, refused, read, read_many, read_ring, read_part, Frame}
use Rattle.frame_bytes.specs.Room.{output_room}
use Rattle.frame_bytes.specs.Encoding.{AnswerCoord, with_origins}

-- ---- a reading, as the functions answer it
--
-- Some of these are given for a refused reading too, since a definition needs every case. The functions that cite them require an accepted
-- one, so that case is never looked at.

-- whether it is refused
abbrev pub check_of : {A : Type 0} → Reading A → Result ⊤ FrameRefusal
check_of (refused r) = Err r
check_of (read a rest) = Ok tt

abbrev pub Accepted : {A : Type 0} → Reading A → Type 0
Accepted x = check_of x ≡ Ok tt

-- where the walk over it ends, in a frame of `size` bytes
abbrev pub walked : {A : Type 0} → ℕ → Reading A → Result ℕ FrameRefusal
walked size (refused r) = Err r
walked size (read a rest) = Ok (size - length rest)

-- r is where `count` steps from a position end, each from where the one before it ended, or the refusal of one of them
unfoldable pub Passes : (ℕ → Result ℕ FrameRefusal → Type 0) → ℕ → ℕ → Result ℕ FrameRefusal → Type 0
Passes Step zero at r = r ≡ Ok at
Passes Step (suc count) at r =
    (first : Result ℕ FrameRefusal) × Step at first × MatchResult first (λ next. Passes Step count next r) (λ refusal. r ≡ Err refusal)

-- such steps may be taken: the first, and from wherever it ends the others
unfoldable pub Passable : (ℕ → Type 0) → (ℕ → Result ℕ FrameRefusal → Type 0) → ℕ → ℕ → Type 0
Passable May Step zero at = ⊤
Passable May Step (suc count) at = May at × ((next : ℕ) → Step at (Ok next) → Passable May Step count next)

-- all rings, or all parts, that were read
abbrev pub all_in : {A : Type 0} → Reading (List A) → List A
all_in (refused r) = []
all_in (read all rest) = all

-- the rings of the part that begins at a position of the frame
abbrev pub part_at : List ℕ → ℕ → List (List Coord)
part_at frame at = all_in (read_part (drop at frame))

-- the k rings that begin at a position of the frame
abbrev pub rings_from : List ℕ → ℕ → ℕ → List (List Coord)
rings_from frame at k = all_in (read_many read_ring k (drop at frame))

-- the output that what was read asks for, and where the next thing starts in a frame of `size` bytes
abbrev pub measured_room : {A : Type 0} → ℕ → (A → ℕ) → Reading A → MeasuredRoom
measured_room size f (refused r) = record { room = 0; next = 0 }
measured_room size f (read a rest) = record { room = f a; next = size - length rest }

-- the output that a frame asks for
abbrev pub frame_room : ℕ → Reading Frame → ℕ
frame_room size (refused r) = 0
frame_room size (read f rest) = output_room size f.parts

-- ---- what is measured of a frame as it stands

-- a rectangle grown by the rings of a part, and where the next part starts in a frame of `size` bytes
abbrev pub measured_of : ℕ → Rect → Reading (List (List Coord)) → Measured
measured_of size rect (refused r) = record { rect = rect; next = 0 }
measured_of size rect (read rings rest) = record { rect = with_rings rect rings; next = size - length rest }

-- the rectangle of all parts
abbrev pub frame_rect : Reading Frame → Rect
frame_rect (refused r) = Rects.Nothing
frame_rect (read f rest) = with_parts Rects.Nothing f.parts

-- whether a part has a coordinate that the overlay can't take
abbrev pub huge_of : Reading (List (List Coord)) → Bool
huge_of (refused r) = false
huge_of (read rings rest) = any_huge_ring rings

-- whether the exterior of a part, assumed to be simple, has no issue
abbrev pub sound_if_simple : Reading (List (List Coord)) → Bool
sound_if_simple (refused r) = false
sound_if_simple (read rings rest) = not (has_issue (issue_of true (exterior rings)))

-- ---- what is written

-- the n coordinates at the front of a slice, each with its origin from the front of another
abbrev pub front_answer_coords : List Float → List ℕ → ℕ → List AnswerCoord
front_answer_coords ring origins n = with_origins (coords (take (2 * n) ring)) (take n origins)
