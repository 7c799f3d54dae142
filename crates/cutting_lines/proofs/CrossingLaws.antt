-- The crossing is close to the exact one (specs/CrossingError.antt), the line as a parameter: within 1 / 2 ^ 42, and so within 1 / 2 ^ 40,
-- as is asked for. Assumes nothing.
use mathlib.Core.Path.{◌≡◌, refl}
use Prim.Native.Nat.{◌^◌}
use lib.Dec.{T, lit≤, lit<}
use lib.Ieee.{Float, binary64, fits}
use Rattle.binary64.specs.Interpolation.{interpolate}
use Rattle.binary64.specs.ExactCrossing.{OffAtMost}
use Rattle.binary64.proofs.AtMost256.{at-most-small}
use Rattle.binary64.proofs.Cut.{Small}
use Rattle.binary64.proofs.Lines.{between}
use Rattle.binary64.proofs.CrossingError.{off_wider, interpolate_off}
use Rattle.tile.specs.declared.Coord.{Coord}
use Rattle.tile.specs.declared.TileBounds.{TileBounds}
use Rattle.tile.specs.declared.Edge.{Edge}
use Rattle.tile.specs.declared.Edge.TheVariants.{Left, Right, Bottom, Top}
use Rattle.tile.specs.Magnitude.{CoordAtMost256}
use Rattle.cutting_lines.specs.CuttingLines.{fixed, free, place, bound, is_low, inside, crossing}
use Rattle.cutting_lines.specs.CrossingError.{OneCut, exact_free, WithinError}

-- bounds and a coordinate whose numbers are doubles
abbrev pub FittingBounds : TileBounds → Type 0
FittingBounds b =
    T (fits binary64 b.lng_min) × T (fits binary64 b.lat_min) × T (fits binary64 b.lng_max)
    × T (fits binary64 b.lat_max)

abbrev pub FittingCoord : Coord → Type 0
FittingCoord p = T (fits binary64 p.x) × T (fits binary64 p.y)

-- ---- what holds of all bounds and of both coordinates holds of the line's
bound-fits : (l : Edge) (b : TileBounds) → FittingBounds b → T (fits binary64 (bound l b))
bound-fits Left b h = h.0
bound-fits Right b h = h.2
bound-fits Bottom b h = h.1
bound-fits Top b h = h.3

small : (l : Edge) (p : Coord) → FittingCoord p → CoordAtMost256 p → Small binary64 1029 (fixed l p) × Small binary64 1029 (free l p)
small l p f h = place_at l (at-most-small (f.0, h.0)) (at-most-small (f.1, h.1))
  where
    place_at : (l : Edge) → Small binary64 1029 p.x → Small binary64 1029 p.y
        → Small binary64 1029 (fixed l p) × Small binary64 1029 (free l p)
    place_at Left x y = (x, y)
    place_at Right x y = (x, y)
    place_at Bottom x y = (y, x)
    place_at Top x y = (y, x)

free-place : (l : Edge) (v u : Float) → free l (place l v u) ≡ u
free-place Left v u = refl
free-place Right v u = refl
free-place Bottom v u = refl
free-place Top v u = refl

-- ---- one cut
-- within 1 / 2 ^ 42, as near as demand 3 has the overrun
pub crossing_off : (l : Edge) (b : TileBounds) (s e : Coord) → FittingBounds b → FittingCoord s → FittingCoord e → OneCut l b s e
    → OffAtMost binary64 (free l (crossing l b s e)) (exact_free l b s e) (2 ^ 1032)
unfolding inside crossing
crossing_off l b s e fb fs fe cut =
    let c = at-most-small (bound-fits l b fb, cut.1) in
    let vs = small l s fs cut.2 in
    let ve = small l e fe cut.3 in
    rw (free-place l (bound l b) (interpolate binary64 (bound l b) (fixed l s) (fixed l e) (free l s) (free l e)))
    (interpolate_off binary64 1029 (lit< tt) c vs.0 ve.0 vs.1 ve.1
    (between (is_low l) (inside l b s) c.number vs.0.number ve.0.number refl cut.0))

-- Point 8
pub crossing_error_lem : (l : Edge) (b : TileBounds) (s e : Coord) → FittingBounds b → FittingCoord s → FittingCoord e
    → WithinError l b s e (crossing l b s e)
crossing_error_lem l b s e fb fs fe cut = off_wider (lit≤ tt) (crossing_off l b s e fb fs fe cut)
