-- Coordinates of whole numbers, for the cases that the crates `sutherland_hodgman` and `frames` compute. Assumes nothing.
use Prim.Native.Nat.{ℕ}
use lib.IntN.{pos}
use lib.Ieee.{Float, binary64, of_int}
use Rattle.tile.specs.declared.Coord.{Coord}

-- a whole number as a double, rounded: 1e150 and 9e149 too
unfoldable pub num : ℕ → Float
unfolding of_int
num n = of_int binary64 (pos n)

unfoldable pub at : ℕ → ℕ → Coord
unfolding num
at x y = record { x = num x; y = num y }
