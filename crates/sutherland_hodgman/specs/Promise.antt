-- What the ring cutter promises of every ring that it answers: demand 3 (document 01, "Cut rings"). Definitions only.
use Rattle.std.specs.Prelude.{◌⊎◌, ◌≡◌, List, ℕ, suc, ◌^◌, ◌≤◌, T, length}
use Rattle.std.specs.Float.{binary64}
use Rattle.std.specs.Float.Ieee.{le}
use Rattle.std.specs.Float.Ieee.Scale.{finite}
use Rattle.binary64.specs.Scaled.{LessAtMost}
use Rattle.binary64.specs.Lists.{Every}
use Rattle.tile.specs.declared.Coord.{Coord}
use Rattle.tile.specs.declared.TileBounds.{TileBounds}
use Rattle.tile.specs.Magnitude.{BoundsAtMost256, CoordAtMost256}
use Rattle.sutherland_hodgman.specs.Growth.{four_half_growths}

-- the latitude lies from south to north
abbrev pub LatitudeInBounds : TileBounds → Coord → Type 0
LatitudeInBounds b p = T (le b.lat_min p.y) × T (le p.y b.lat_max)

-- 1/2^42, times 2^1074: of a ring behind four passes. How far one crossing is from the exact one, `CrossingError` of `cutting_lines` says.
abbrev pub overrun : ℕ
overrun = 2 ^ 1032

-- the longitude is finite, and at most that much below west or above east
abbrev pub LongitudeNearBounds : TileBounds → Coord → Type 0
LongitudeNearBounds b p =
    T (finite p.x) × LessAtMost binary64 b.lng_min p.x overrun × LessAtMost binary64 p.x b.lng_max overrun

pub record Promise (b : TileBounds) (ring answer : List Coord) : Type 0 where
  pub latitudes : T (le b.lat_min b.lat_max) → Every (LatitudeInBounds b) answer
  pub vertices : (length answer ≡ 0) ⊎ (3 ≤ length answer)
  pub growth : length answer ≤ suc (four_half_growths (length ring))
  pub longitudes : T (le b.lat_min b.lat_max) → T (le b.lng_min b.lng_max) → BoundsAtMost256 b
      → Every CoordAtMost256 ring → Every (LongitudeNearBounds b) answer
