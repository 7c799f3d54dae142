-- What the functions of this crate say to each other. No contract of an entry point reaches it. Definitions only.
use Rattle.std.specs.Prelude.{ℕ, ◌+◌, ◌*◌, ◌^◌, cond, Float, Option, Some, None}
use Rattle.tile.specs.declared.Coord.{Coord}
use Rattle.exact.specs.declared.segments.Side.{Side}
use Rattle.exact.specs.declared.segments.Side.TheVariants as Sides
use Rattle.exact.specs.Segments.{Point, is_left}
use Rattle.exact.specs.Grid.{on_grid, grid_steps, from_lowest, point_of, coord_on_grid}

-- ---- whole numbers of up to 116 binary digits, in three places to the base 2^30

abbrev pub value : ℕ → ℕ → ℕ → ℕ
value high middle low = high * 2 ^ 60 + middle * 2 ^ 30 + low

-- ---- points

-- the side of the line from a to b that c lies on
unfoldable pub side_of : Point → Point → Point → Side
side_of a b c = cond (is_left a b c) Sides.Left (cond (is_left b a c) Sides.Right Sides.On)

-- ---- numbers and coordinates, looked at one by one

-- the steps from 0, of a number on the grid
unfoldable pub steps_of : Float → Option ℕ
steps_of x = cond (on_grid x) (Some (grid_steps x)) None

-- the steps from -256, likewise
unfoldable pub grid_number_of : Float → Option ℕ
grid_number_of x = cond (on_grid x) (Some (from_lowest x)) None

unfoldable pub grid_point_of : Coord → Option Point
grid_point_of p = cond (coord_on_grid p) (Some (point_of p)) None
