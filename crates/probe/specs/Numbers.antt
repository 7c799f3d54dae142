-- Bounds as four numbers of a slice, the way the exported test functions take and give them. Definitions only.
use Rattle.std.specs.Prelude.{List, [], ◌∷◌, Float, get_or}
use Rattle.std.specs.Float.{nan}
use Rattle.std.proofs.lemmas.List.Edits.{sets}
use Rattle.tile.specs.declared.TileBounds.{TileBounds}
use Rattle.tile.specs.Bounds.{new_of}

-- west, south, east, north; a number that is missing is a NaN
abbrev pub bounds_at : List Float → TileBounds
bounds_at l = new_of (get_or l 0 nan) (get_or l 1 nan) (get_or l 2 nan) (get_or l 3 nan)

-- the slice with the four numbers at its front, as far as it is long enough
abbrev pub stored : List Float → TileBounds → List Float
stored l b = sets l 0 (b.lng_min ∷ b.lat_min ∷ b.lng_max ∷ b.lat_max ∷ [])
