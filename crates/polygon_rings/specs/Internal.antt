-- What the functions that cut a lent polygon say to each other and to the slice call. No contract of an entry point reaches it, so a reader
-- of those can skip this file. Definitions only.
use Rattle.std.specs.Prelude.{◌≡◌, true, List, [], ◌∷◌, ◌++◌, ℕ, ◌+◌, ◌*◌, ◌-◌, zero, suc, ◌^◌, ◌<◌, ◌≤◌, Float, length, take}
use Rattle.std.proofs.lemmas.List.Edits.{sets}
use Rattle.binary64.specs.Slices.{over}
use Rattle.tile.specs.declared.Coord.{Coord}
use Rattle.tile.specs.declared.TileBounds.{TileBounds}
use Rattle.tile.specs.Ring.{flat}
use Rattle.tile.specs.Internal.{Stands}
use Rattle.sutherland_hodgman.specs.Growth.{most_coordinates}
use Rattle.rings.specs.LentRings.{total, largest, ring_room, exterior}
use Rattle.rings.specs.Internal.{all_closed}
use Rattle.clip.specs.declared.polygon.Route.{Route}
use Rattle.clip.specs.Polygon.{Routed, cut_exterior}
use Rattle.clip.specs.Internal.{RingRoom, RingOriginRoom, CutStands, OriginsStand}
use Rattle.polygon_rings.specs.declared.Placed.{Placed}
use Rattle.polygon_rings.specs.WrittenRings.{written_rings, numbers_of, lengths_of, origins_of}

-- so many coordinates, the rings of a cut, stand at the front of the output, and their lengths at the front of the second length slice;
-- what lies past them in the output is left open
pub record Filled (to : Routed) (coordinates : ℕ) (out_lengths : List ℕ) (out' : List Float) (out_lengths' : List ℕ) : Type 0 where
  pub count : 2 * coordinates ≡ length (numbers_of (written_rings to))
  pub output : take (2 * coordinates) out' ≡ numbers_of (written_rings to)
  pub lengths : out_lengths' ≡ over (lengths_of (written_rings to)) out_lengths

-- so many origins, those of a cut's rings, stand at the front of theirs
pub record FilledOrigins (origins : List (List ℕ)) (coordinates : ℕ) (out_origins' : List ℕ) : Type 0 where
  pub count : coordinates ≡ length (origins_of origins)
  pub output : take coordinates out_origins' ≡ origins_of origins

-- the lengths to write for a ring of n coordinates: none for a ring that is left out
abbrev pub length_unless_none : ℕ → List ℕ
length_unless_none zero = []
length_unless_none (suc n) = suc n ∷ []

-- no ring is counted yet
abbrev pub none_placed : Placed
none_placed = record { rings = 0; coordinates = 0 }

-- a ring of n coordinates can be counted, and its length has room
pub record CountRoom (n out_lengths : ℕ) (at : Placed) : Type 0 where
  pub small : n < 2 ^ 32
  pub coordinates : at.coordinates + n < 2 ^ 64
  pub lengths-room : at.rings < out_lengths

-- the ring is counted: its coordinates, and its length if it has any
pub record Counted (n : ℕ) (at : Placed) (out_lengths : List ℕ) (r : Placed) (out_lengths' : List ℕ) : Type 0 where
  pub lengths : out_lengths' ≡ sets out_lengths at.rings (length_unless_none n)
  pub coordinates-after : r.coordinates ≡ at.coordinates + n
  pub rings-after : r.rings ≡ at.rings + length (length_unless_none n)

-- a ring can be cut in the output behind the rings counted so far
pub record HoleRoom (ring : List Coord) (scratch out out_lengths : ℕ) (at : Placed) : Type 0 where
  pub room : RingRoom ring scratch (out - 2 * at.coordinates)
  pub output-room : 2 * at.coordinates ≤ out
  pub lengths-room : at.rings < out_lengths

-- and its origins in theirs, behind those of the rings counted so far
pub record HoleOriginRoom (ring : List Coord) (origin_scratch out_origins : ℕ) (at : Placed) : Type 0 where
  pub room : RingOriginRoom ring origin_scratch (out_origins - at.coordinates)
  pub output-room : at.coordinates ≤ out_origins

-- the ring stands there, the rings before it are as they were, and it is counted
pub record Put (ring : List Coord) (at : Placed) (out : List Float) (out_lengths : List ℕ) (r : Placed) (out' : List Float)
    (out_lengths' : List ℕ) : Type 0 where
  pub output : take (2 * r.coordinates) out' ≡ take (2 * at.coordinates) out ++ flat ring
  pub counted : Counted (length ring) at out_lengths r out_lengths'

-- Lent rings, closed, can be cut with a scratch slice of this length, and have room in the output behind the rings counted so far. No
-- first coordinate holds a NaN, so that closing closed every ring.
pub record LentRingsRoom (lent : List (List Coord)) (scratch out out_lengths : ℕ) (at : Placed) : Type 0 where
  pub small : total length lent ≤ most_coordinates
  pub closes : all_closed lent ≡ true
  pub scratch-room : 2 * largest ring_room lent ≤ scratch
  pub output-room : 2 * at.coordinates + 2 * total ring_room lent ≤ out
  pub lengths-room : at.rings + length lent ≤ out_lengths

-- and their origins, with a scratch slice and an output of these lengths
pub record LentOriginsRoom (lent : List (List Coord)) (origin_scratch out_origins : ℕ) (at : Placed) : Type 0 where
  pub scratch-room : largest ring_room lent ≤ origin_scratch
  pub output-room : at.coordinates + total ring_room lent ≤ out_origins

-- the cut holes that are not left out stand there, the rings before them are as they were, and they are counted
pub record PutHoles (holes : List (List Coord)) (at : Placed) (out : List Float) (out_lengths : List ℕ) (r : Placed) (out' : List Float)
    (out_lengths' : List ℕ) : Type 0 where
  pub output : take (2 * r.coordinates) out' ≡ take (2 * at.coordinates) out ++ numbers_of holes
  pub lengths : out_lengths' ≡ sets out_lengths at.rings (lengths_of holes)
  pub coordinates-after : 2 * r.coordinates ≡ 2 * at.coordinates + length (numbers_of holes)
  pub rings-after : r.rings ≡ at.rings + length holes

-- the cut exterior, m coordinates long, stands at the front of the output, and the holes can be cut
pub record LentCutRoom (bounds : TileBounds) (lent : List (List Coord)) (m scratch : ℕ) (out : List Float)
    (out_lengths : ℕ) : Type 0 where
  pub rings : LentRingsRoom lent scratch (length out) out_lengths none_placed
  pub some : 0 < length lent
  pub stands : Stands (cut_exterior bounds (exterior lent)) m out
  pub whole : 0 < m

-- the exterior has this route, and where it is a cut, the cut exterior stands at the front of the output
pub record LentRouteRoom (route : Route) (bounds : TileBounds) (lent : List (List Coord)) (scratch : ℕ) (out : List Float)
    (out_lengths : ℕ) : Type 0 where
  pub rings : LentRingsRoom lent scratch (length out) out_lengths none_placed
  pub some : 0 < length lent
  pub stands : CutStands bounds (exterior lent) route out

-- where it is a cut, the origins of the cut exterior stand at the front of theirs, and all origins have room
pub record LentRouteOriginRoom (route : Route) (bounds : TileBounds) (lent : List (List Coord)) (origin_scratch : ℕ)
    (out_origins : List ℕ) : Type 0 where
  pub rings : LentOriginsRoom lent origin_scratch (length out_origins) none_placed
  pub stands : OriginsStand bounds (exterior lent) route out_origins

-- a polygon has room everywhere, its exterior also for the sweep's positions
pub record PolygonRoom (lent : List (List Coord)) (scratch order out out_lengths : ℕ) : Type 0 where
  pub small : total length lent ≤ most_coordinates
  pub some : 0 < length lent
  pub scratch-room : 2 * largest ring_room lent ≤ scratch
  pub positions : largest ring_room lent ≤ order
  pub output-room : 2 * total ring_room lent ≤ out
  pub lengths-room : length lent ≤ out_lengths
