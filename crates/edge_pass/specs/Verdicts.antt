-- How many verdicts a pass works out (document 02, Point 3). Definitions only.
use Rattle.std.specs.Prelude.{List, [], ◌∷◌, ℕ, suc, length}
use Rattle.tile.specs.declared.Coord.{Coord}
use Rattle.edge_pass.specs.Pass.{leave_off}

-- around the vertices that are left: one on the vertex to start from, and one on the end of each edge
abbrev pub verdicts_around : List Coord → ℕ
verdicts_around [] = 0
verdicts_around (p ∷ r) = suc (length (p ∷ r))

-- "one more than the vertices left after its leaving off, none if none are left"
unfoldable pub verdicts : List Coord → ℕ
verdicts r = verdicts_around (leave_off r)
