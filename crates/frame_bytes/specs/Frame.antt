-- Frames (document 01, "Frames"): what the bytes of one say, or which of the refusals 11 to 18 it meets. Definitions only.
use Rattle.std.specs.Prelude.{Bool, true, false, not, ◌&&◌, ◌||◌, List, [], ◌∷◌, ℕ, zero, suc, ◌*◌, ◌/◌, ◌%◌, ltb, eqb, Float, length}
use Rattle.std.specs.Prelude.{get_or, take, drop}
use Rattle.binary64.specs.Bytes.{Little, number_of, double}
use Rattle.tile.specs.declared.Coord.{Coord}
use Rattle.tile.specs.declared.TileBounds.{TileBounds}
use Rattle.tile.specs.Bounds.{new_of}
use Rattle.tile.specs.Ring.{close}
use Rattle.rings.specs.LentRings.{most_rings}
use Rattle.frame_bytes.specs.declared.head.Head.{Head}
use Rattle.frame_bytes.specs.declared.reader.FrameRefusal.{FrameRefusal}
use Rattle.frame_bytes.specs.declared.reader.FrameRefusal.TheVariants.{Size, Kind, FlagBits, PartCount, Truncated, RingCount}
use Rattle.frame_bytes.specs.declared.reader.FrameRefusal.TheVariants.{CoordinateCount, Trailing, Output}

-- ---- limits and numbers

-- the bytes of a head, which a frame has at least
abbrev pub head_bytes : ℕ
head_bytes = 44

abbrev pub longest : ℕ
longest = 5120

abbrev pub polygon_kind : ℕ
polygon_kind = 3

abbrev pub multipolygon_kind : ℕ
multipolygon_kind = 6

abbrev pub most_flags : ℕ
most_flags = 3

abbrev pub most_parts : ℕ
most_parts = 256

abbrev pub most_in_ring : ℕ
most_in_ring = 4096

-- the paper's number of each refusal
abbrev pub frame_refusal_number : FrameRefusal → ℕ
frame_refusal_number Size = 11
frame_refusal_number Kind = 12
frame_refusal_number FlagBits = 13
frame_refusal_number PartCount = 14
frame_refusal_number Truncated = 15
frame_refusal_number RingCount = 16
frame_refusal_number CoordinateCount = 17
frame_refusal_number Trailing = 18
frame_refusal_number Output = 22

-- ---- reading from the front of bytes

-- a refusal, or what was read and the bytes that follow it
pub data Reading (A : Type 0) : Type 0 where
  refused : FrameRefusal → Reading A
  read : A → List ℕ → Reading A

abbrev pub refused_if : {A : Type 0} → Bool → FrameRefusal → Reading A → Reading A
refused_if true r x = refused r
refused_if false r x = x

-- what comes next is read from the bytes that follow
abbrev pub and_then : {A C : Type 0} → Reading A → (A → List ℕ → Reading C) → Reading C
and_then (refused r) next = refused r
and_then (read a rest) next = next a rest

-- k things of one kind, one behind the other
unfoldable pub read_many : {A : Type 0} → (List ℕ → Reading A) → ℕ → List ℕ → Reading (List A)
read_many f zero l = read [] l
read_many f (suc k) l = and_then (f l) (λ a rest. and_then (read_many f k rest) (λ others. read (a ∷ others)))

-- ---- a count, a coordinate, a ring, a part

-- "Little-endian." "part count, 2 bytes", "ring count, 2 bytes", "coordinate count, 2 bytes"
unfoldable pub count_of : List ℕ → ℕ
count_of l = number_of Little (take 2 l)

abbrev pub double_at : ℕ → List ℕ → Float
double_at at l = double Little (take 8 (drop at l))

-- "x and y, 8 bytes each"
abbrev pub coord_of : List ℕ → Coord
coord_of l = record { x = double_at 0 l; y = double_at 8 l }

unfoldable pub coords_of : ℕ → List ℕ → List Coord
coords_of zero l = []
coords_of (suc n) l = coord_of l ∷ coords_of n (drop 16 l)

-- "15 when, walking from the front, a count or coordinate is not whole"
unfoldable pub read_count : List ℕ → Reading ℕ
read_count l = refused_if (ltb (length l) 2) Truncated (read (count_of l) (drop 2 l))

-- closed: "The frame reader and the slice call, both added, close rings by this rule."
unfoldable pub read_coords : ℕ → List ℕ → Reading (List Coord)
read_coords n l = refused_if (ltb (length l) (16 * n)) Truncated (read (close (coords_of n l)) (drop (16 * n) l))

-- "each ring: coordinate count, 2 bytes, then x and y"; "17 when a coordinate count read there is over 4,096"
unfoldable pub read_ring : List ℕ → Reading (List Coord)
read_ring l = and_then (read_count l) (λ n rest. refused_if (ltb most_in_ring n) CoordinateCount (read_coords n rest))

abbrev pub wrong_ring_count : ℕ → Bool
wrong_ring_count k = eqb k 0 || ltb most_rings k

-- "Each part: ring count, 2 bytes, exterior first"; "16 when a ring count read there is 0 or over 64"
unfoldable pub read_part : List ℕ → Reading (List (List Coord))
read_part l = and_then (read_count l) (λ k rest. refused_if (wrong_ring_count k) RingCount (read_many read_ring k rest))

-- k parts, and "18 when bytes follow the last part"
unfoldable pub read_parts : ℕ → List ℕ → Reading (List (List (List Coord)))
read_parts k l = and_then (read_many read_part k l) (λ parts rest. refused_if (ltb 0 (length rest)) Trailing (read parts rest))

-- ---- a frame

pub record Frame : Type 0 where
  pub head : Head
  pub parts : List (List (List Coord))

-- "Kind, 1 byte (3 polygon, 6 multipolygon); flags, 1 byte (1 `assume_simple`, 2 `skip_boundary_fallback`, summed)"
abbrev pub kind_of : List ℕ → ℕ
kind_of l = get_or l 0 0

abbrev pub flags_byte : List ℕ → ℕ
flags_byte l = get_or l 1 0

-- "west, south, east, north, buffer, 8 bytes each; part count, 2 bytes"
abbrev pub bounds_of : List ℕ → TileBounds
bounds_of l = new_of (double_at 2 l) (double_at 10 l) (double_at 18 l) (double_at 26 l)

abbrev pub part_count_of : List ℕ → ℕ
part_count_of l = count_of (drop 42 l)

abbrev pub head_of : List ℕ → Head
head_of l = record {
  kind = kind_of l;
  assume_simple = eqb (flags_byte l % 2) 1;
  skip_boundary_fallback = eqb (flags_byte l / 2) 1;
  bounds = bounds_of l;
  buffer = double_at 34 l;
  parts = part_count_of l;
}

-- "11 when a frame is under 44 or over 5,120 bytes"
abbrev pub wrong_size : ℕ → Bool
wrong_size n = ltb n head_bytes || ltb longest n

-- "12 when the kind is not 3 or 6"
abbrev pub wrong_kind : ℕ → Bool
wrong_kind kind = not (eqb kind polygon_kind || eqb kind multipolygon_kind)

-- "14 when a kind 3 frame has not one part, or any has over 256"
abbrev pub wrong_part_count : ℕ → ℕ → Bool
wrong_part_count kind parts = (eqb kind polygon_kind && not (eqb parts 1)) || ltb most_parts parts

-- "A frame call does 11 to 18 .., tested in that order, 15 to 17 as the walk meets them."
unfoldable pub read_frame : List ℕ → Reading Frame
read_frame l =
    refused_if (wrong_size (length l)) Size
    (refused_if (wrong_kind (kind_of l)) Kind
    (refused_if (ltb most_flags (flags_byte l)) FlagBits
    (refused_if (wrong_part_count (kind_of l) (part_count_of l)) PartCount
    (and_then (read_parts (part_count_of l) (drop head_bytes l)) (λ parts. read (record { head = head_of l; parts = parts }))))))
