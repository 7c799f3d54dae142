-- `TileBounds` and its methods (document 01, the head). Definitions only.
use Rattle.std.specs.Prelude.{Bool, false, true, ◌&&◌, Float}
use Rattle.std.specs.Float.{inf, binary64}
use Rattle.std.specs.Float.Ieee.{le, add, sub}
use Rattle.binary64.specs.Compare.{minimum, maximum}
use Rattle.tile.specs.declared.TileBounds.{TileBounds}

abbrev pub new_of : Float → Float → Float → Float → TileBounds
new_of west south east north = record { lng_min = west; lat_min = south; lng_max = east; lat_max = north }

abbrev pub empty : TileBounds
empty = new_of (inf false) (inf false) (inf true) (inf true)

abbrev pub is_valid : TileBounds → Bool
is_valid b = le b.lng_min b.lng_max && le b.lat_min b.lat_max

-- each side the further out of the two, NaN passed over: of two equal numbers the first's is kept
abbrev pub expand : TileBounds → TileBounds → TileBounds
expand a b =
    new_of (minimum a.lng_min b.lng_min) (minimum a.lat_min b.lat_min)
    (maximum a.lng_max b.lng_max) (maximum a.lat_max b.lat_max)

-- each side the further in of the two, likewise
abbrev pub intersect : TileBounds → TileBounds → TileBounds
intersect a b =
    new_of (maximum a.lng_min b.lng_min) (maximum a.lat_min b.lat_min)
    (minimum a.lng_max b.lng_max) (minimum a.lat_max b.lat_max)

abbrev pub width : TileBounds → Float
width b = sub binary64 b.lng_max b.lng_min

abbrev pub height : TileBounds → Float
height b = sub binary64 b.lat_max b.lat_min

-- "buffering subtracts the buffer from the first two and adds it to the last two"
abbrev pub buffered : TileBounds → Float → TileBounds
buffered b buffer =
    new_of (sub binary64 b.lng_min buffer) (sub binary64 b.lat_min buffer)
    (add binary64 b.lng_max buffer) (add binary64 b.lat_max buffer)
