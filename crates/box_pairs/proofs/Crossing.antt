-- Laws of the crossing test: symmetric, not between boxes that are apart, not where a coordinate is NaN, and what it means. Nothing above
-- this file unfolds `cross`. Assumes nothing.
use mathlib.Core.Path.{◌≡◌, sym, subst}
use mathlib.Core.Bool.{Bool, true, false}
use lib.Ieee.{lt}
use Rattle.binary64.specs.Compare.{minimum, maximum}
use Rattle.binary64.proofs.Booleans.{both}
use Rattle.tile.specs.declared.Coord.{Coord}
use Rattle.exact.specs.Segments.{Decides}
use Rattle.exact.specs.Grid.{MaySharePoint, may_share_point}
use Rattle.exact.proofs.MayShareLaws.{may_other_first, may_decided}
use Rattle.box_pairs.specs.Cross.{cross_in_floats, cross}
use Rattle.box_pairs.specs.Internal.{separate}
use Rattle.box_pairs.proofs.FloatCrossing as floats

-- ---- what it means

pub cross_decided : (a1 a2 b1 b2 : Coord) → Decides (cross a1 a2 b1 b2) ((cross_in_floats a1 a2 b1 b2 ≡ true) × MaySharePoint a1 a2 b1 b2)
unfolding cross
cross_decided a1 a2 b1 b2 =
    let d = may_decided a1 a2 b1 b2 in (
      λ h. let k = both (cross_in_floats a1 a2 b1 b2) (may_share_point a1 a2 b1 b2) h in (k.0, d.0 k.1),
      λ p. rw p.0 (d.1 p.1),
    )

-- both promises of `crosses`
pub answered : (a1 a2 b1 b2 : Coord) (r : Bool) → r ≡ cross a1 a2 b1 b2
    → (r ≡ cross a1 a2 b1 b2) × Decides r ((cross_in_floats a1 a2 b1 b2 ≡ true) × MaySharePoint a1 a2 b1 b2)
answered a1 a2 b1 b2 r e = (
  e,
  subst (λ (v : Bool). Decides v ((cross_in_floats a1 a2 b1 b2 ≡ true) × MaySharePoint a1 a2 b1 b2)) (sym e)
      (cross_decided a1 a2 b1 b2),
)

-- ---- the test in floats and the exact one

pub not-in_floats : (a1 a2 b1 b2 : Coord) → cross_in_floats a1 a2 b1 b2 ≡ false → cross a1 a2 b1 b2 ≡ false
unfolding cross
not-in_floats a1 a2 b1 b2 e = rw e

pub by_exact : (a1 a2 b1 b2 : Coord) → cross_in_floats a1 a2 b1 b2 ≡ true → cross a1 a2 b1 b2 ≡ may_share_point a1 a2 b1 b2
unfolding cross
by_exact a1 a2 b1 b2 e = rw e

-- ---- what the test in floats has, it has too

pub cross_mirror : (a1 a2 b1 b2 : Coord) → cross a1 a2 b1 b2 ≡ cross b1 b2 a1 a2
unfolding cross
cross_mirror a1 a2 b1 b2 = rw (floats.mirror a1 a2 b1 b2, may_other_first a1 a2 b1 b2)

-- an edge that starts past the end of another does not cross it
pub apart-left : (a1 a2 b1 b2 : Coord) → lt (maximum a1.x a2.x) (minimum b1.x b2.x) ≡ true → cross a1 a2 b1 b2 ≡ false
apart-left a1 a2 b1 b2 e = not-in_floats a1 a2 b1 b2 (floats.apart-left a1 a2 b1 b2 e)

-- edges that the comparison finds apart in y do not cross
pub apart_y : (a1 a2 b1 b2 : Coord) → separate a1.y a2.y b1.y b2.y ≡ true → cross a1 a2 b1 b2 ≡ false
apart_y a1 a2 b1 b2 h = not-in_floats a1 a2 b1 b2 (floats.apart_y a1 a2 b1 b2 h)

-- "no crossing where a coordinate is NaN": edges that cross hold numbers only
pub cross-numbers : (a1 a2 b1 b2 : Coord) → cross a1 a2 b1 b2 ≡ true → floats.NoNan a1.x a2.x b1.x b2.x
    × floats.NoNan a1.y a2.y b1.y b2.y
cross-numbers a1 a2 b1 b2 h = floats.numbers a1 a2 b1 b2 ((cross_decided a1 a2 b1 b2).0 h).0
