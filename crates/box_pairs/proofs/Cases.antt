-- Pairs of edges that tell readings of document 02, Point 5, apart, computed from the definitions: the edges 0 and 2 of rings of decimals,
-- all of which cross in floats. Assumes nothing.
use mathlib.Core.Path.{◌≡◌, refl}
use mathlib.Core.Bool.{Bool, true, false}
use mathlib.Core.List.{[], ◌∷◌}
use Prim.Native.Nat.{ℕ}
use lib.Ieee.{Float, binary64, is_nan, round, lt, eq, sub, mul, of_bits}
use Rattle.binary64.specs.Compare.{minimum, maximum, magnitude, tolerance, near}
use Rattle.tile.specs.declared.Coord.{Coord}
use Rattle.exact.specs.Grid.{on_grid, grid_steps, from_lowest, point_of, coord_on_grid, all_on_grid, may_share_point}
use Rattle.exact.specs.Segments as Segments
use Rattle.box_pairs.specs.Cross.{cross_product_sign, above_below, splits, intersect_properly, degenerate, apart_on, apart}
use Rattle.box_pairs.specs.Cross.{cross_in_floats, cross}

-- the double nearest to so many tenths, and to so many below 0
tenths : ℕ → Float
tenths n = round binary64 false n 10

minus : ℕ → Float
minus n = round binary64 true n 10

at : Float → Float → Coord
at x y = record { x = x; y = y }

-- what is found of a pair
record Found : Type 0 where
  in_floats : Bool
  on_grid_lem : Bool
  crossing : Bool

found : Coord → Coord → Coord → Coord → Found
found a1 a2 b1 b2 = record { in_floats = cross_in_floats a1 a2 b1 b2; on_grid_lem = all_on_grid a1 a2 b1 b2; crossing = cross a1 a2 b1 b2 }

-- no point in common; an end of one on the other; an overlap on one line; an end of one on the other's line only; no point in common, off
-- the grid by small numbers and by one above 256
each-found : (
    found (at (tenths 479) (tenths 730)) (at (tenths 227) (tenths 604)) (at (tenths 731) (tenths 856)) (at (minus 817) (tenths 82))
    ∷ found (at (tenths 1123) (tenths 148)) (at (tenths 127) (tenths 480)) (at (tenths 616) (tenths 317)) (at (tenths 211) (tenths 452))
    ∷ found (at (minus 251) (tenths 622)) (at (minus 2549) (minus 910)) (at (tenths 484) (tenths 1112)) (at (minus 1139) (tenths 30))
    ∷ found (at (tenths 186) (tenths 792)) (at (minus 372) (tenths 420)) (at (tenths 888) (tenths 1260)) (at (minus 90) (tenths 608))
    ∷ found (at (tenths 1) (tenths 3)) (at (tenths 6) (tenths 8)) (at (tenths 4) (tenths 6)) (at (tenths 3) (tenths 5))
    ∷ found (at (tenths 2574) (tenths 90)) (at (tenths 0) (tenths 0)) (at (tenths 572) (tenths 20)) (at (tenths 858) (tenths 30)) ∷ [])
    ≡ record { in_floats = true; on_grid_lem = true; crossing = false } ∷ record { in_floats = true; on_grid_lem = true; crossing = true }
    ∷ record { in_floats = true; on_grid_lem = true; crossing = true } ∷ record { in_floats = true; on_grid_lem = true; crossing = false }
    ∷ record { in_floats = true; on_grid_lem = false; crossing = true } ∷ record { in_floats = true; on_grid_lem = false; crossing = true } ∷ []
unfolding found at tenths minus cross cross_in_floats apart apart_on degenerate intersect_properly splits above_below cross_product_sign
    may_share_point all_on_grid coord_on_grid on_grid point_of from_lowest grid_steps Segments.shares_point Segments.one_side Segments.both_left
    Segments.is_left Segments.boxes_apart Segments.ranges_apart near magnitude tolerance minimum maximum round of_bits is_nan lt eq sub mul
each-found = refl
