-- Rings as lists of coordinates and as flat lists of x, y numbers; closing (document 01, the head: "The domain is .."). Definitions only.
use Rattle.std.specs.Prelude.{Bool, true, ◌&&◌, cond, List, [], ◌∷◌, ◌++◌, Float}
use Rattle.std.specs.Float.Ieee.{eq}
use Rattle.tile.specs.declared.Coord.{Coord}

-- the coordinates of x, y numbers; a number that is left over is passed over
unfoldable pub coords : List Float → List Coord
coords [] = []
coords (x ∷ []) = []
coords (x ∷ y ∷ r) = record { x = x; y = y } ∷ coords r

-- the x, y numbers of coordinates
unfoldable pub flat : List Coord → List Float
flat [] = []
flat (p ∷ r) = p.x ∷ p.y ∷ flat r

-- equal as IEEE 754 compares: -0.0 equals 0.0, and what holds a NaN equals nothing
unfoldable pub same : Coord → Coord → Bool
same p q = eq p.x q.x && eq p.y q.y

-- the last coordinate of a ring that starts with p
unfoldable pub last : Coord → List Coord → Coord
last p [] = p
last p (q ∷ r) = last q r

-- a ring that closing leaves as it is
unfoldable pub closed : List Coord → Bool
closed [] = true
closed (p ∷ r) = same p (last p r)

-- "a non-empty ring whose last coordinate doesn't compare equal to its first has the first appended"
unfoldable pub close : List Coord → List Coord
close [] = []
close (p ∷ r) = cond (closed (p ∷ r)) (p ∷ r) ((p ∷ r) ++ (p ∷ []))
