-- The four lines that a ring is cut at (document 01, "Cut rings"), the line as a parameter. `Edge`, the source's name for such a line, is
-- not an edge of a ring. Definitions only.
use Rattle.std.specs.Prelude.{Bool, true, false, Float}
use Rattle.std.specs.Float.{binary64}
use Rattle.binary64.specs.Interpolation.{within, interpolate}
use Rattle.tile.specs.declared.Coord.{Coord}
use Rattle.tile.specs.declared.TileBounds.{TileBounds}
use Rattle.tile.specs.declared.Edge.{Edge}
use Rattle.tile.specs.declared.Edge.TheVariants.{Left, Right, Bottom, Top}

-- the coordinate that a line fixes, and the other one
abbrev pub fixed : Edge → Coord → Float
fixed Left p = p.x
fixed Right p = p.x
fixed Bottom p = p.y
fixed Top p = p.y

abbrev pub free : Edge → Coord → Float
free Left p = p.y
free Right p = p.y
free Bottom p = p.x
free Top p = p.x

-- the vertex with these two
abbrev pub place : Edge → Float → Float → Coord
place Left v u = record { x = v; y = u }
place Right v u = record { x = v; y = u }
place Bottom v u = record { x = u; y = v }
place Top v u = record { x = u; y = v }

abbrev pub bound : Edge → TileBounds → Float
bound Left b = b.lng_min
bound Right b = b.lng_max
bound Bottom b = b.lat_min
bound Top b = b.lat_max

-- Left and Bottom keep what is at the bound or above it, Right and Top what is at it or below it
abbrev pub is_low : Edge → Bool
is_low Left = true
is_low Right = false
is_low Bottom = true
is_low Top = false

-- "On a line counts as in; NaN is out."
unfoldable pub inside : Edge → TileBounds → Coord → Bool
inside l b p = within (is_low l) (bound l b) (fixed l p)

-- "The crossing takes the bound itself in one coordinate, and in the other the start plus t times (end − start)"
unfoldable pub crossing : Edge → TileBounds → Coord → Coord → Coord
crossing l b s e = place l (bound l b) (interpolate binary64 (bound l b) (fixed l s) (fixed l e) (free l s) (free l e))
