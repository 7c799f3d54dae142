-- What the functions that walk over rings say to each other and to the crates above. No contract of an entry point reaches it, so a reader
-- of those can skip this file. Definitions only.
use Rattle.std.specs.Prelude.{◌≡◌, Bool, true, false, ◌&&◌, ◌||◌, List, [], ◌∷◌, ℕ, Float}
use Rattle.std.specs.Float.Ieee.{is_nan}
use Rattle.binary64.specs.Compare.{near}
use Rattle.tile.specs.declared.Coord.{Coord}
use Rattle.tile.specs.declared.TileBounds.{TileBounds}
use Rattle.tile.specs.Ring.{closed}
use Rattle.rings.specs.declared.lent_rings.LentRings.{LentRings}
use Rattle.rings.specs.LentRings.{closed_rings, total, largest, ring_room}

-- the four numbers of a rectangle are no NaN, so that its sides can be compared
pub record Numbers (w s e n : Float) : Type 0 where
  pub west : is_nan w ≡ false
  pub south : is_nan s ≡ false
  pub east : is_nan e ≡ false
  pub north : is_nan n ≡ false

-- lent rings, closed
abbrev pub rings_of : LentRings → List (List Coord)
rings_of rings = closed_rings rings.lengths.now rings.coords.now

-- every ring is closed: after closing this is so unless a first coordinate holds a NaN
unfoldable pub all_closed : List (List Coord) → Bool
all_closed [] = true
all_closed (r ∷ rs) = closed r && all_closed rs

-- these two numbers are the largest room of a ring and the sum of the rooms
pub record RoomOf (rings : List (List Coord)) (most all : ℕ) : Type 0 where
  pub largest-room : most ≡ largest ring_room rings
  pub whole_room : all ≡ total ring_room rings

-- a coordinate is near one of the four bounds: else no edge from it runs along one
unfoldable pub near_bound : TileBounds → Coord → Bool
near_bound b p = near p.x b.lng_min || (near p.x b.lng_max || (near p.y b.lat_min || near p.y b.lat_max))
