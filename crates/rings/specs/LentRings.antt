-- The rings of a polygon that is lent as x, y numbers, ring behind ring, and their lengths; what the refusals measure of them (document 01,
-- "Frames"). Definitions only.
use Rattle.std.specs.Prelude.{List, [], ◌∷◌, ℕ, ◌+◌, ◌*◌, ◌≤◌, max, Float, length, get_or, take, drop}
use Rattle.tile.specs.declared.Coord.{Coord}
use Rattle.tile.specs.Ring.{coords, close}
use Rattle.sutherland_hodgman.specs.Growth.{B}

-- "over 64 rings" (refusals 16 and 19)
abbrev pub most_rings : ℕ
most_rings = 64

unfoldable pub sum : List ℕ → ℕ
sum [] = 0
sum (n ∷ ns) = n + sum ns

-- at most 64 rings, whose lengths fit in the numbers that are lent
pub record Lent (lengths : List ℕ) (coords : List Float) : Type 0 where
  pub few : length lengths ≤ most_rings
  pub fits : 2 * sum lengths ≤ length coords

-- the lent rings, closed: "The frame reader and the slice call, both added, close rings by this rule."
unfoldable pub closed_rings : List ℕ → List Float → List (List Coord)
closed_rings [] s = []
closed_rings (n ∷ ns) s = close (coords (take (2 * n) s)) ∷ closed_rings ns (drop (2 * n) s)

abbrev pub exterior : List (List Coord) → List Coord
exterior rings = get_or rings 0 []

-- a number of each ring, or of each part, summed
unfoldable pub total : {A : Type 0} → (A → ℕ) → List A → ℕ
total f [] = 0
total f (a ∷ others) = f a + total f others

-- and the largest
unfoldable pub largest : (List Coord → ℕ) → List (List Coord) → ℕ
largest f [] = 0
largest f (r ∷ rs) = max (f r) (largest f rs)

-- the room of a ring, in coordinates: "Ring lengths are taken after closing in B"
abbrev pub ring_room : List Coord → ℕ
ring_room r = B (length r)
