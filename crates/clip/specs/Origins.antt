-- Where each coordinate of a cut polygon came from (document 02, Point 12): in step with the cut rings of Polygon. A ring is given closed;
-- positions are those of the ring as lent, as the first pass leaves off what closing appends (`origins-close` in
-- sutherland_hodgman/proofs/OriginLaws.antt; a polygon with a NaN, which closing does not close, is dropped). Definitions only.
use Rattle.std.specs.Prelude.{◌≡◌, cond, List, [], ◌∷◌, ℕ, length}
use Rattle.tile.specs.declared.Coord.{Coord}
use Rattle.tile.specs.declared.TileBounds.{TileBounds}
use Rattle.sutherland_hodgman.specs.Clip.{clip_ring}
use Rattle.sutherland_hodgman.specs.Origins.{clip_origins, close_origins}
use Rattle.clip.specs.Polygon.{left_out, unless_none, Routed, nothing, dropped, unchanged, cut, overlay}

-- of `cut_exterior`: "any closing vertex appended after the passes has its first's", also the one that a polygon appends
abbrev pub exterior_origins : TileBounds → List Coord → List ℕ
exterior_origins b r = close_origins (clip_ring b r) (clip_origins b r)

-- of `cut_hole`
unfoldable pub hole_origins : TileBounds → List Coord → List ℕ
hole_origins b r = cond (left_out (clip_ring b r)) [] (close_origins (clip_ring b r) (clip_origins b r))

-- of `cut_holes`, those of each by themselves: "the position in its input ring"
unfoldable pub holes_origins : TileBounds → List (List Coord) → List (List ℕ)
holes_origins b [] = []
holes_origins b (r ∷ rs) = unless_none (hole_origins b r) (holes_origins b rs)

-- of `cut_rings`
unfoldable pub cut_origins : TileBounds → List (List Coord) → List (List ℕ)
cut_origins b [] = []
cut_origins b (r ∷ rs) = exterior_origins b r ∷ holes_origins b rs

-- "Every vertex that a cut gives shall say where it came from": what becomes of a polygon has origins only where it is a cut
abbrev pub routed_origins : Routed → TileBounds → List (List Coord) → List (List ℕ)
routed_origins nothing b rings = []
routed_origins dropped b rings = []
routed_origins unchanged b rings = []
routed_origins (cut answered) b rings = cut_origins b rings
routed_origins (overlay reason) b rings = []

-- ---- a law on these, which proofs/Traced.antt proves of `cut_rings` and `cut_origins`

-- ring by ring, there are as many origins as coordinates
abbrev pub AsMany : List (List Coord) → List (List ℕ) → Type 0
AsMany [] [] = Unit {0}
AsMany [] (os ∷ others) = ⊥
AsMany (r ∷ rings) [] = ⊥
AsMany (r ∷ rings) (os ∷ others) = (length os ≡ length r) × AsMany rings others
