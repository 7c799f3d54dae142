-- Coordinates that the overlay can't take (document 01, "Overlay wanted"; the source's `polygon_representable`). Definitions only.
use Rattle.std.specs.Prelude.{Bool, false, ◌||◌, List, [], ◌∷◌}
use Rattle.binary64.specs.Compare.{huge}
use Rattle.tile.specs.declared.Coord.{Coord}

-- a coordinate that "has magnitude 1e150 or more"
unfoldable pub huge_coord : Coord → Bool
huge_coord p = huge p.x || huge p.y

-- "Where any coordinate of the polygon has magnitude 1e150 or more": of one ring
unfoldable pub any_huge : List Coord → Bool
any_huge [] = false
any_huge (p ∷ r) = huge_coord p || any_huge r

-- of all rings
unfoldable pub any_huge_ring : List (List Coord) → Bool
any_huge_ring [] = false
any_huge_ring (r ∷ rs) = any_huge r || any_huge_ring rs
