-- Counts, coordinates with their origins, rings and the header of an answer as bytes (document 01, "Frames"; document 02, Point 12). The
-- bytes of a coordinate are a parameter of a ring's. Definitions only.
use Rattle.std.specs.Prelude.{List, [], ◌∷◌, ◌++◌, ℕ, length, get_or, drop}
use Rattle.binary64.specs.Bytes.{Little, bytes_of, double_bytes}
use Rattle.tile.specs.declared.Coord.{Coord}

unfoldable pub each : {A : Type 0} → (A → List ℕ) → List A → List ℕ
each f [] = []
each f (a ∷ others) = f a ++ each f others

abbrev pub count_bytes : ℕ → List ℕ
count_bytes n = bytes_of Little 2 n

-- "x and y, 8 bytes each"; "NaN is written with bits 7ff8000000000000"
abbrev pub coord_bytes : Coord → List ℕ
coord_bytes p = double_bytes Little p.x ++ double_bytes Little p.y

-- a coordinate of an answer and where it came from: a position in its input ring, or a line
pub record AnswerCoord : Type 0 where
  pub coord : Coord
  pub origin : ℕ

-- "Coordinates in answers are followed by 2 bytes, the position, or 65,532 to 65,535 for the four lines."
abbrev pub answer_coord_bytes : AnswerCoord → List ℕ
answer_coord_bytes v = coord_bytes v.coord ++ count_bytes v.origin

-- the coordinates of a ring, each with its origin
unfoldable pub with_origins : List Coord → List ℕ → List AnswerCoord
with_origins [] origins = []
with_origins (p ∷ ring) origins = record { coord = p; origin = get_or origins 0 0 } ∷ with_origins ring (drop 1 origins)

-- the rings of a polygon, each with its origins
unfoldable pub rings_with_origins : List (List Coord) → List (List ℕ) → List (List AnswerCoord)
rings_with_origins [] origins = []
rings_with_origins (ring ∷ rings) origins = with_origins ring (get_or origins 0 []) ∷ rings_with_origins rings (drop 1 origins)

-- "An answer: 1 byte .., guard count 2 bytes, number of listed parts 2 bytes."
abbrev pub header_bytes : ℕ → ℕ → ℕ → List ℕ
header_bytes number guard parts = number ∷ count_bytes guard ++ count_bytes parts

-- "each ring: coordinate count, 2 bytes, then" its coordinates
unfoldable pub ring_bytes : {A : Type 0} → (A → List ℕ) → List A → List ℕ
ring_bytes coordinate ring = count_bytes (length ring) ++ each coordinate ring
