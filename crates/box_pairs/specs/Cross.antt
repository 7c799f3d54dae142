-- When two edges cross (document 01, "Unchanged"; the source's `edges_intersect_properly`, `cross_product_sign`; document 02, Point 5).
-- Definitions only.
use Rattle.std.specs.Prelude.{Bool, not, ◌&&◌, ◌||◌, Float}
use Rattle.std.specs.Float.{binary64}
use Rattle.std.specs.Float.Ieee.{lt, sub, mul, of_bits}
use Rattle.binary64.specs.Compare.{minimum, maximum, near}
use Rattle.tile.specs.declared.Coord.{Coord}
use Rattle.exact.specs.Grid.{may_share_point}

-- 0.0
abbrev pub zero64 : Float
zero64 = of_bits binary64 0

-- which side of the line from a to b the point c lies on, by the sign; each operation rounded once, in the source's order
unfoldable pub cross_product_sign : Coord → Coord → Coord → Float
cross_product_sign a b c =
    sub binary64 (mul binary64 (sub binary64 b.x a.x) (sub binary64 c.y a.y))
    (mul binary64 (sub binary64 b.y a.y) (sub binary64 c.x a.x))

unfoldable pub above_below : Float → Float → Bool
above_below d e = lt zero64 d && lt e zero64

-- the ends c and d of an edge lie strictly on opposite sides of the line through a and b, in floats
unfoldable pub splits : Coord → Coord → Coord → Coord → Bool
splits a b c d =
    above_below (cross_product_sign a b c) (cross_product_sign a b d) || above_below (cross_product_sign a b d) (cross_product_sign a b c)

-- "`edges_intersect_properly` says so in floats"
unfoldable pub intersect_properly : Coord → Coord → Coord → Coord → Bool
intersect_properly a1 a2 b1 b2 = splits b1 b2 a1 a2 && splits a1 a2 b1 b2

-- "shorter than 1e-10 in both axes"; of neighbours: "differ by less than 1e-10 in x and in y"
unfoldable pub degenerate : Coord → Coord → Bool
degenerate a b = near a.x b.x && near a.y b.y

-- the boxes of two edges are apart in an axis, in which the edges run from a1 to a2 and from b1 to b2; boxes that touch are not apart
unfoldable pub apart_on : Float → Float → Float → Float → Bool
apart_on a1 a2 b1 b2 = lt (maximum a1 a2) (minimum b1 b2) || lt (maximum b1 b2) (minimum a1 a2)

unfoldable pub apart : Coord → Coord → Coord → Coord → Bool
apart a1 a2 b1 b2 = apart_on a1.x a2.x b1.x b2.x || apart_on a1.y a2.y b1.y b2.y

-- "Two edges cross if their boxes are not apart, neither is shorter than 1e-10 in both axes, and `edges_intersect_properly` says so"
unfoldable pub cross_in_floats : Coord → Coord → Coord → Coord → Bool
cross_in_floats a1 a2 b1 b2 = not (apart a1 a2 b1 b2) && (not (degenerate a1 a2 || degenerate b1 b2) && intersect_properly a1 a2 b1 b2)

-- "From now on a pair crosses only if, besides, the two closed segments share a point, reckoned exactly, where each of the eight numbers
-- is .." (document 02); what it decides: `cross_decided` in proofs/Crossing.antt
unfoldable pub cross : Coord → Coord → Coord → Coord → Bool
cross a1 a2 b1 b2 = cross_in_floats a1 a2 b1 b2 && may_share_point a1 a2 b1 b2
