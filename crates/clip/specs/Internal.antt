-- What the functions that route a polygon say to each other and to the crates above. No contract of an entry point reaches it, so a reader
-- of those can skip this file. Definitions only.
use Rattle.std.specs.Prelude.{◌≡◌, true, List, ℕ, ◌*◌, ◌<◌, ◌≤◌, Float, length, take}
use Rattle.tile.specs.declared.Coord.{Coord}
use Rattle.tile.specs.declared.TileBounds.{TileBounds}
use Rattle.tile.specs.Ring.{closed, close}
use Rattle.tile.specs.Internal.{Stands}
use Rattle.sutherland_hodgman.specs.Growth.{B, most_coordinates}
use Rattle.clip.specs.declared.polygon.Route.{Route}
use Rattle.clip.specs.declared.polygon.Route.TheVariants as Routes
use Rattle.clip.specs.Polygon.{cut_exterior}
use Rattle.clip.specs.Origins.{exterior_origins}

-- A ring can be closed and cut with a scratch slice and an output of these lengths. Its first coordinate holds no NaN, so that closing
-- closes it.
pub record RingRoom (ring : List Coord) (scratch out : ℕ) : Type 0 where
  pub few : length (close ring) ≤ most_coordinates
  pub closes : closed (close ring) ≡ true
  pub scratch-room : 2 * B (length (close ring)) ≤ scratch
  pub output-room : 2 * B (length (close ring)) ≤ out

-- the origins of such a ring have room in a scratch slice and an output of these lengths
pub record RingOriginRoom (ring : List Coord) (scratch out : ℕ) : Type 0 where
  pub scratch-room : B (length (close ring)) ≤ scratch
  pub output-room : B (length (close ring)) ≤ out

-- an exterior is searched for crossings too, for which the sweep takes positions
pub record ExteriorRoom (ring : List Coord) (scratch out order : ℕ) : Type 0 where
  pub room : RingRoom ring scratch out
  pub positions : B (length (close ring)) ≤ order

-- where the route is a cut, the cut exterior stands at the front of the slice, and it is not empty
abbrev pub CutStands : TileBounds → List Coord → Route → List Float → Type 0
CutStands b ring Routes.Nothing after = Unit {0}
CutStands b ring Routes.Unchanged after = Unit {0}
CutStands b ring (Routes.Cut n) after = Stands (cut_exterior b ring) n after × (0 < n)
CutStands b ring (Routes.Overlay reason) after = Unit {0}

-- where the route is a cut, the origins of the cut exterior stand at the front of the slice
abbrev pub OriginsStand : TileBounds → List Coord → Route → List ℕ → Type 0
OriginsStand b ring Routes.Nothing after = Unit {0}
OriginsStand b ring Routes.Unchanged after = Unit {0}
OriginsStand b ring (Routes.Cut n) after = take n after ≡ exterior_origins b ring
OriginsStand b ring (Routes.Overlay reason) after = Unit {0}
