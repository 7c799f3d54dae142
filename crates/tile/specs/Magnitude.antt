-- Bounds and coordinates whose numbers are finite and at most 256 in magnitude (demand 3; document 02, Point 8). Definitions only.
use Rattle.std.specs.Prelude.{T}
use Rattle.binary64.specs.Compare.{at_most_256}
use Rattle.tile.specs.declared.Coord.{Coord}
use Rattle.tile.specs.declared.TileBounds.{TileBounds}

abbrev pub BoundsAtMost256 : TileBounds → Type 0
BoundsAtMost256 b =
    T (at_most_256 b.lng_min) × T (at_most_256 b.lat_min) × T (at_most_256 b.lng_max) × T (at_most_256 b.lat_max)

abbrev pub CoordAtMost256 : Coord → Type 0
CoordAtMost256 p = T (at_most_256 p.x) × T (at_most_256 p.y)
