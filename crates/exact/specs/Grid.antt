-- Doubles on the grid of 1/2^48, and what is asked of a pair of segments whose numbers are all on it (document 02, Point 5). Definitions
-- only.
use Rattle.std.specs.Prelude.{◌≡◌, ℕ, ◌+◌, ◌-◌, ◌*◌, ◌/◌, ◌%◌, ◌^◌, Bool, true, false, cond, not, ◌&&◌, ◌||◌, ◌==◌, nat_le, Float}
use Rattle.std.specs.Float.{nan, inf, fin}
use Rattle.std.specs.Float.Ieee.{up, down}
use Rattle.binary64.specs.Scaled.{sign}
use Rattle.tile.specs.declared.Coord.{Coord}
use Rattle.exact.specs.Segments.{Point, SharedPoint, shares_point}

-- ---- the grid

-- "a whole multiple of 1/2^48 and at most 256 in magnitude"; "(every double from 16 to 256 is)": `from_16_on` in proofs/GridRange.antt
unfoldable pub on_grid : Float → Bool
on_grid nan = false
on_grid (inf s) = false
on_grid (fin s m e) = m * up e * 2 ^ 48 % down e == 0 && nat_le (m * up e) (256 * down e)

-- the magnitude of such a number in steps of 1/2^48
unfoldable pub grid_steps : Float → ℕ
grid_steps nan = 0
grid_steps (inf s) = 0
grid_steps (fin s m e) = m * up e * 2 ^ 48 / down e

-- the number in steps from -256 on, so that it is never negative: (x + 256) times 2^48, as `grid_value` in proofs/GridLaws.antt says. That
-- all points are moved alike changes nothing of `SharedPoint`, as both sums of weights are the same
unfoldable pub from_lowest : Float → ℕ
from_lowest x = cond (sign x) (2 ^ 56 - grid_steps x) (2 ^ 56 + grid_steps x)

unfoldable pub point_of : Coord → Point
point_of p = record { x = from_lowest p.x; y = from_lowest p.y }

unfoldable pub coord_on_grid : Coord → Bool
coord_on_grid p = on_grid p.x && on_grid p.y

-- "each of the eight numbers"
unfoldable pub all_on_grid : Coord → Coord → Coord → Coord → Bool
all_on_grid a1 a2 b1 b2 = (coord_on_grid a1 && coord_on_grid a2) && (coord_on_grid b1 && coord_on_grid b2)

-- ---- what is asked of the segments from a1 to a2 and from b1 to b2

-- "the two closed segments share a point, reckoned exactly, where each of the eight numbers is .."; "Others keep the old rule."
abbrev pub MaySharePoint : Coord → Coord → Coord → Coord → Type 0
MaySharePoint a1 a2 b1 b2 = all_on_grid a1 a2 b1 b2 ≡ true → SharedPoint (point_of a1) (point_of a2) (point_of b1) (point_of b2)

-- the same by the test by sides: `may_decided` in proofs/MayShareLaws.antt
unfoldable pub may_share_point : Coord → Coord → Coord → Coord → Bool
may_share_point a1 a2 b1 b2 = not (all_on_grid a1 a2 b1 b2) || shares_point (point_of a1) (point_of a2) (point_of b1) (point_of b2)
