-- What contracts on rings in slices cite besides: a coordinate by its position, and where a ring stands. No contract of an entry point
-- reaches it, so a reader of those can skip this file. Definitions only.
use Rattle.std.specs.Prelude.{◌≡◌, List, ◌++◌, ℕ, ◌+◌, ◌*◌, Float, length, get_or, take, drop}
use Rattle.std.specs.Float.{nan}
use Rattle.tile.specs.declared.Coord.{Coord}
use Rattle.tile.specs.Ring.{flat}

-- the i-th coordinate of x, y numbers
abbrev pub coord_at : List Float → ℕ → Coord
coord_at s i = record { x = get_or s (2 * i) nan; y = get_or s (2 * i + 1) nan }

-- what stands for a coordinate at a position past the last
unfoldable pub nowhere : Coord
nowhere = record { x = nan; y = nan }

-- a ring stands at the front of a slice, r coordinates long; what lies past it is left open
pub record Stands (ring : List Coord) (r : ℕ) (after : List Float) : Type 0 where
  pub count : r ≡ length ring
  pub numbers : take (2 * r) after ≡ flat ring

-- a ring stands at the front of a slice, r coordinates long, and past it the slice is as it was
pub record Written (ring : List Coord) (before : List Float) (r : ℕ) (after : List Float) : Type 0 where
  pub count : r ≡ length ring
  pub numbers : after ≡ flat ring ++ drop (2 * r) before
