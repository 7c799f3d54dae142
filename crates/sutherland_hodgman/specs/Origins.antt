-- Where each vertex of a cut ring came from (document 02, Point 12), in step with Clip. Definitions only.
use Rattle.std.specs.Prelude.{◌≡◌, ◌⊎◌, cond, List, [], ◌∷◌, ◌++◌, ℕ, zero, suc, ◌<◌, leb, length, get_or}
use Rattle.tile.specs.declared.Coord.{Coord}
use Rattle.tile.specs.declared.TileBounds.{TileBounds}
use Rattle.tile.specs.declared.Edge.{Edge}
use Rattle.tile.specs.declared.Edge.TheVariants.{Left, Right, Bottom, Top}
use Rattle.tile.specs.Ring.{closed}
use Rattle.cutting_lines.specs.CuttingLines.{fixed, bound}
use Rattle.edge_pass.specs.Pass.{pass}
use Rattle.edge_pass.specs.Origins.{line_origin, pass_origins}
use Rattle.sutherland_hodgman.specs.Clip.{passes}

-- ---- the origins of a cut

-- The positions are below the numbers of the lines: a ring call and a slice call refuse "over 65,532 coordinates" (20), and no frame has
-- so many.
abbrev pub IsPosition : ℕ → Type 0
IsPosition o = o < line_origin Left

-- n positions from i on
unfoldable pub positions_from : ℕ → ℕ → List ℕ
positions_from i zero = []
positions_from i (suc n) = i ∷ positions_from (suc i) n

-- the origins of what the four passes make of a ring, in which each vertex has its position: "A vertex made by an earlier line and kept by
-- later ones keeps that origin"
unfoldable pub passes_origins : TileBounds → List Coord → List ℕ
passes_origins b r =
    let left = pass Left b r in
    let right = pass Right b left in
    let bottom = pass Bottom b right in
    pass_origins Top b bottom
    (pass_origins Bottom b right (pass_origins Right b left (pass_origins Left b r (positions_from 0 (length r)))))

-- of what `close` makes of a ring that has the origins os: "any closing vertex appended after the passes has its first's"
unfoldable pub close_origins : List Coord → List ℕ → List ℕ
close_origins r os = cond (closed r) os (os ++ (get_or os 0 0 ∷ []))

-- of what `finish` makes of it
unfoldable pub finish_origins : List Coord → List ℕ → List ℕ
finish_origins r os = cond (leb 3 (length r)) (close_origins r os) []

-- of what `clip_ring` makes of a ring
unfoldable pub clip_origins : TileBounds → List Coord → List ℕ
clip_origins b r = finish_origins (passes b r) (passes_origins b r)

-- ---- what the origins say of the coordinates and of each other: proofs/OriginLaws.antt proves the first three of every vertex of a cut,
-- and the last of the vertices before the closing ones

-- "the position in its input ring": the vertex that stands there
pub record FromRing (ring : List Coord) (p : Coord) (o : ℕ) : Type 0 where
  pub position : o < length ring
  pub vertex : p ≡ get_or ring o p

-- "the line that made it": its bound stands in the coordinate that it fixes
pub record FromLine (b : TileBounds) (p : Coord) (o : ℕ) : Type 0 where
  pub line : Edge
  pub origin : o ≡ line_origin line
  pub stands : fixed line p ≡ bound line b

-- the vertex p, whose origin is o, came from the ring or from a line
abbrev pub Traced : TileBounds → List Coord → Coord → ℕ → Type 0
Traced b ring p o = FromRing ring p o ⊎ FromLine b p o

-- of two positions the later one is the greater; what is no position is passed over
abbrev pub Rises : List ℕ → Type 0
Rises os =
    (i j : ℕ) → i < j → j < length os → IsPosition (get_or os i 0) → IsPosition (get_or os j 0) → get_or os i 0 < get_or os j 0
