-- Sutherland and Hodgman's rule for a ring and four lines (document 01, "Cut rings"): the four passes, the ring. Definitions only.
use Rattle.std.specs.Prelude.{cond, List, [], leb, length}
use Rattle.tile.specs.declared.Coord.{Coord}
use Rattle.tile.specs.declared.TileBounds.{TileBounds}
use Rattle.tile.specs.declared.Edge.TheVariants.{Left, Right, Bottom, Top}
use Rattle.tile.specs.Ring.{close}
use Rattle.edge_pass.specs.Pass.{pass}

-- "Passes run Left, Right, Bottom, Top."
unfoldable pub passes : TileBounds → List Coord → List Coord
passes b r = pass Top b (pass Bottom b (pass Right b (pass Left b r)))

-- "After four passes fewer than 3 vertices give an empty ring; else the first is appended unless it equals the last."
unfoldable pub finish : List Coord → List Coord
finish r = cond (leb 3 (length r)) (close r) []

-- what `clip_ring` makes of a ring
unfoldable pub clip_ring : TileBounds → List Coord → List Coord
clip_ring b r = finish (passes b r)
