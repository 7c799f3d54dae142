-- Where each vertex that a pass leaves came from (document 02, Point 12): folds in step with those of Pass, over the same verdicts.
-- Definitions only.
use Rattle.std.specs.Prelude.{Bool, true, false, List, [], ◌∷◌, ◌++◌, ℕ, get_or, drop}
use Rattle.tile.specs.declared.Coord.{Coord}
use Rattle.tile.specs.declared.TileBounds.{TileBounds}
use Rattle.tile.specs.declared.Edge.{Edge}
use Rattle.tile.specs.declared.Edge.TheVariants.{Left, Right, Bottom, Top}
use Rattle.tile.specs.Ring.{last}
use Rattle.cutting_lines.specs.CuttingLines.{inside}
use Rattle.edge_pass.specs.Pass.{leave_off}

-- "65,532 to 65,535 for the four lines": "Left, Right, Bottom, Top"
abbrev pub line_origin : Edge → ℕ
line_origin Left = 65532
line_origin Right = 65533
line_origin Bottom = 65534
line_origin Top = 65535

-- the origins of what `step` gives: a crossing has "the line that made it", an end keeps its own
abbrev pub step_origins : Bool → Bool → ℕ → ℕ → List ℕ
step_origins true true line end = end ∷ []
step_origins true false line end = line ∷ []
step_origins false true line end = line ∷ end ∷ []
step_origins false false line end = []

-- of what `steps` gives from a vertex whose verdict is v along the vertices that follow, which have the origins os. No 0 stands for a
-- missing origin: the first pass has as many positions as vertices, and each gives as many origins as vertices to the next
-- (`length-positions` in sutherland_hodgman/proofs/Positions.antt, `pass_many` in proofs/OriginWalking.antt).
unfoldable pub steps_origins : Edge → TileBounds → Bool → List Coord → List ℕ → List ℕ
steps_origins l b v [] os = []
steps_origins l b v (e ∷ r) os =
    step_origins v (inside l b e) (line_origin l) (get_or os 0 0) ++ steps_origins l b (inside l b e) r (drop 1 os)

-- of what `around` gives
unfoldable pub around_origins : Edge → TileBounds → List Coord → List ℕ → List ℕ
around_origins l b [] os = []
around_origins l b (p ∷ r) os = steps_origins l b (inside l b (last p r)) (p ∷ r) os

-- of what a pass makes of a ring that has the origins os; the vertex that is left off is the last one, and its origin goes with it
unfoldable pub pass_origins : Edge → TileBounds → List Coord → List ℕ → List ℕ
pass_origins l b r os = around_origins l b (leave_off r) os
