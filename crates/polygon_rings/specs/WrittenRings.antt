-- A cut's rings as a slice call writes them (document 01, "Frames"; document 02, Point 12): their numbers, lengths and origins, ring behind
-- ring. Definitions only.
use Rattle.std.specs.Prelude.{List, [], ◌∷◌, ◌++◌, ℕ, Float, length}
use Rattle.tile.specs.declared.Coord.{Coord}
use Rattle.tile.specs.Ring.{flat}
use Rattle.clip.specs.Polygon.{Routed, nothing, dropped, unchanged, cut, overlay}

-- "A cut's rings stand from the front of the output, exterior first, their lengths in a second u32 slice": other answers have no rings to
-- write, and no lengths
abbrev pub written_rings : Routed → List (List Coord)
written_rings nothing = []
written_rings dropped = []
written_rings unchanged = []
written_rings (cut rings) = rings
written_rings (overlay reason) = []

unfoldable pub numbers_of : List (List Coord) → List Float
numbers_of [] = []
numbers_of (r ∷ rs) = flat r ++ numbers_of rs

unfoldable pub lengths_of : List (List Coord) → List ℕ
lengths_of [] = []
lengths_of (r ∷ rs) = length r ∷ lengths_of rs

-- the origins of rings, one ring's behind the other's
unfoldable pub origins_of : List (List ℕ) → List ℕ
origins_of [] = []
origins_of (os ∷ others) = os ++ origins_of others
