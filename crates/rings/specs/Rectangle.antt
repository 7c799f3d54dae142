-- The rectangle of all rings of a polygon, and where it lies (document 01, "Nothing, or dropped" and "Unchanged"; of all parts,
-- "Multipolygons"). Definitions only.
use Rattle.std.specs.Prelude.{Bool, true, false, ◌&&◌, List, [], ◌∷◌, Float}
use Rattle.std.specs.Float.Ieee.{le}
use Rattle.std.specs.Float.Ieee.Scale.{finite}
use Rattle.binary64.specs.Compare.{minimum, maximum}
use Rattle.tile.specs.declared.Coord.{Coord}
use Rattle.tile.specs.declared.TileBounds.{TileBounds}
use Rattle.rings.specs.declared.rectangle.Rect.{Rect}
use Rattle.rings.specs.declared.rectangle.Rect.TheVariants as Rects

-- "Any coordinate NaN or infinite": no rectangle any more
abbrev pub if_finite : Bool → Rect → Rect
if_finite true r = r
if_finite false r = Rects.NotFinite

abbrev pub is_finite_coord : Coord → Bool
is_finite_coord p = finite p.x && finite p.y

-- the rectangle with one more coordinate
unfoldable pub with_coord : Rect → Coord → Rect
with_coord Rects.Nothing p = if_finite (is_finite_coord p) (Rects.Box p.x p.y p.x p.y)
with_coord Rects.NotFinite p = Rects.NotFinite
with_coord (Rects.Box w s e n) p =
    if_finite (is_finite_coord p) (Rects.Box (minimum w p.x) (minimum s p.y) (maximum e p.x) (maximum n p.y))

-- with all of a ring
unfoldable pub with_ring : Rect → List Coord → Rect
with_ring r [] = r
with_ring r (p ∷ ps) = with_ring (with_coord r p) ps

-- "It is over the exterior and all holes."
unfoldable pub with_rings : Rect → List (List Coord) → Rect
with_rings r [] = r
with_rings r (ring ∷ rings) = with_rings (with_ring r ring) rings

abbrev pub rectangle : List (List Coord) → Rect
rectangle rings = with_rings Rects.Nothing rings

-- the rectangle of all parts
unfoldable pub with_parts : Rect → List (List (List Coord)) → Rect
with_parts r [] = r
with_parts r (part ∷ parts) = with_parts (with_rings r part) parts

-- "They are not apart exactly if its high x is at least west, its low x at most east, its high y at least south and its low y at most
-- north": on one axis
unfoldable pub reaches : Float → Float → Float → Float → Bool
reaches low high from to = le from high && le low to

-- not apart; what is no rectangle meets no bounds
unfoldable pub intersects_bounds : Rect → TileBounds → Bool
intersects_bounds Rects.Nothing b = false
intersects_bounds Rects.NotFinite b = false
intersects_bounds (Rects.Box w s e n) b = reaches w e b.lng_min b.lng_max && reaches s n b.lat_min b.lat_max

-- "rectangle inside the bounds (edges included)": on one axis
unfoldable pub lies_between : Float → Float → Float → Float → Bool
lies_between low high from to = le from low && le high to

unfoldable pub is_fully_inside : Rect → TileBounds → Bool
is_fully_inside Rects.Nothing b = false
is_fully_inside Rects.NotFinite b = false
is_fully_inside (Rects.Box w s e n) b = lies_between w e b.lng_min b.lng_max && lies_between s n b.lat_min b.lat_max
