-- An edge of the cut exterior that runs along a bound (document 01, "Overlay wanted"). Definitions only.
use Rattle.std.specs.Prelude.{Bool, ◌&&◌, cond, List, [], ◌∷◌, Option, None, Some, find}
use Rattle.binary64.specs.Compare.{near}
use Rattle.tile.specs.declared.Coord.{Coord}
use Rattle.tile.specs.declared.TileBounds.{TileBounds}
use Rattle.tile.specs.declared.Edge.{Edge}
use Rattle.tile.specs.declared.Edge.TheVariants.{Left, Right, Bottom, Top}
use Rattle.box_pairs.specs.Cross.{degenerate}
use Rattle.cutting_lines.specs.CuttingLines.{fixed, bound}

-- "has both ends within 1e-10 (strictly) of the Left, Right, Bottom or Top bound": of one of them
unfoldable pub runs_along : Edge → TileBounds → Coord → Coord → Bool
runs_along l b p q = near (fixed l p) (bound l b) && near (fixed l q) (bound l b)

abbrev pub edges : List Edge
edges = Left ∷ Right ∷ Bottom ∷ Top ∷ []

-- "an edge of the cut exterior, not shorter than 1e-10 in both axes, .. Left before Right before Bottom before Top"
unfoldable pub bridge_of : TileBounds → Coord → Coord → Option Edge
bridge_of b p q = cond (degenerate p q) None (find (λ l. runs_along l b p q) edges)

abbrev pub or_else : Option Edge → Option Edge → Option Edge
or_else (Some l) other = Some l
or_else None other = other

-- "the first such edge decides"
unfoldable pub first_bridge : TileBounds → List Coord → Option Edge
first_bridge b [] = None
first_bridge b (p ∷ []) = None
first_bridge b (p ∷ q ∷ r) = or_else (bridge_of b p q) (first_bridge b (q ∷ r))
