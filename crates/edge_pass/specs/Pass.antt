-- One pass of Sutherland and Hodgman's rule, along a ring at one line (document 01, "Cut rings"): the step, leaving off, the pass.
-- Definitions only.
use Rattle.std.specs.Prelude.{Bool, true, false, cond, List, [], ◌∷◌, ◌++◌, ◌-◌, length, take}
use Rattle.tile.specs.declared.Coord.{Coord}
use Rattle.tile.specs.declared.TileBounds.{TileBounds}
use Rattle.tile.specs.declared.Edge.{Edge}
use Rattle.tile.specs.Ring.{last, closed}
use Rattle.cutting_lines.specs.CuttingLines.{inside, crossing}

-- "In to in: the end. In to out: the crossing. Out to in: the crossing, then the end. Out to out: none."
abbrev pub step : Bool → Bool → Coord → Coord → List Coord
step true true crossed end = end ∷ []
step true false crossed end = crossed ∷ []
step false true crossed end = crossed ∷ end ∷ []
step false false crossed end = []

-- the steps from the vertex s, whose verdict is v, along the vertices that follow
unfoldable pub steps : Edge → TileBounds → Bool → Coord → List Coord → List Coord
steps l b v s [] = []
steps l b v s (e ∷ r) = step v (inside l b e) (crossing l b s e) e ++ steps l b (inside l b e) e r

-- "leaves off the last vertex if the list has two or more and first equals last"
unfoldable pub leave_off : List Coord → List Coord
leave_off [] = []
leave_off (p ∷ []) = p ∷ []
leave_off (p ∷ q ∷ r) = cond (closed (p ∷ q ∷ r)) (take (length (p ∷ q ∷ r) - 1) (p ∷ q ∷ r)) (p ∷ q ∷ r)

-- the steps along all vertices: "Start from the last vertex kept."
unfoldable pub around : Edge → TileBounds → List Coord → List Coord
around l b [] = []
around l b (p ∷ r) = steps l b (inside l b (last p r)) (last p r) (p ∷ r)

-- one pass: "Each pass first leaves off .."
unfoldable pub pass : Edge → TileBounds → List Coord → List Coord
pass l b r = around l b (leave_off r)
