-- Coordinates on the grid as points, and the exact test of segments between such. Assumes nothing.
use Rattle.std.proofs.Common.{◌≡◌, ℕ, ◌+◌, ◌-◌, ◌^◌, ◌≤◌, Bool, true, false, cond, not, ◌&&◌, ◌||◌, sym, refl, ◌∙◌, subst, arith}
use mathlib.Core.Bool.{and_comm, and-false}
use lib.Ieee.{Float}
use Rattle.binary64.specs.Scaled.{sign}
use Rattle.tile.specs.declared.Coord.{Coord}
use Rattle.std.specs.Prelude.{Some, None}
use Rattle.std.proofs.lemmas.Option.{cond_some}
use Rattle.exact.specs.Segments.{Point, Decides, shares_point}
use Rattle.exact.specs.Grid.{on_grid, grid_steps, from_lowest, point_of, coord_on_grid, all_on_grid, MaySharePoint, may_share_point}
use Rattle.exact.specs.Internal.{grid_number_of, grid_point_of}
use Rattle.exact.proofs.GridLaws.{none_told, steps-small}
use Rattle.exact.proofs.SegmentLaws.{shares_decided, shares_other_first, shares_other_way}

-- ---- the ways out of `grid_point_of`

pub x_off : (p : Coord) → grid_number_of p.x ≡ None → None ≡ grid_point_of p
unfolding grid_number_of grid_point_of coord_on_grid
x_off p e = rw (none_told (on_grid p.x) (from_lowest p.x) e)

pub y_off : (p : Coord) → grid_number_of p.y ≡ None → None ≡ grid_point_of p
unfolding grid_number_of grid_point_of coord_on_grid
y_off p e = rw (none_told (on_grid p.y) (from_lowest p.y) e, and-false (on_grid p.x))

pub both-on : (p : Coord) (a b : ℕ) → grid_number_of p.x ≡ Some a → grid_number_of p.y ≡ Some b
    → Some (record { x = a; y = b }) ≡ grid_point_of p
unfolding grid_number_of grid_point_of coord_on_grid point_of
both-on p a b e f =
    let j = cond_some (on_grid p.x) (from_lowest p.x) a e in
    let k = cond_some (on_grid p.y) (from_lowest p.y) b f in
    rw (j.0, k.0, j.1, k.1)

-- ---- what an answer tells

at_told : (p : Coord) (q : Point) → grid_point_of p ≡ Some q → (coord_on_grid p ≡ true) × (point_of p ≡ q)
unfolding grid_point_of
at_told p q e = cond_some (coord_on_grid p) (point_of p) q e

grid_point_off : (p : Coord) → grid_point_of p ≡ None → coord_on_grid p ≡ false
unfolding grid_point_of
grid_point_off p e = none_told (coord_on_grid p) (point_of p) e

whole-small : (x : Float) → on_grid x ≡ true → from_lowest x ≤ 2 ^ 57
unfolding from_lowest
whole-small x h = go (sign x) (grid_steps x) (steps-small x h)
  where
    go : (s : Bool) (n : ℕ) → n ≤ 2 ^ 56 → cond s (2 ^ 56 - n) (2 ^ 56 + n) ≤ 2 ^ 57
    go true n l = omega arith
    go false n l = omega arith

-- the numbers that `grid_number_of` answers are at most as large as those of the grid
pub number_bounded : (x : Float) (n : ℕ) → grid_number_of x ≡ Some n → n ≤ 2 ^ 57
unfolding grid_number_of
number_bounded x n e =
    let k = cond_some (on_grid x) (from_lowest x) n e in
    subst (λ (m : ℕ). m ≤ 2 ^ 57) k.1 (whole-small x k.0)

-- ---- it is the same whichever segment comes first, and whichever way each is gone

pub may_other_first : (a b c d : Coord) → may_share_point a b c d ≡ may_share_point c d a b
unfolding may_share_point all_on_grid
may_other_first a b c d =
    rw (
      and_comm (coord_on_grid a && coord_on_grid b) (coord_on_grid c && coord_on_grid d),
      shares_other_first (point_of a) (point_of b) (point_of c)
          (point_of d),
    )

pub may_other_way : (a b c d : Coord) → may_share_point a b c d ≡ may_share_point b a c d
unfolding may_share_point all_on_grid
may_other_way a b c d = rw (and_comm (coord_on_grid a) (coord_on_grid b), shares_other_way (point_of a) (point_of b) (point_of c) (point_of d))

-- ---- the ways out of `may_share_point`

off_grid : (a b c d : Coord) → all_on_grid a b c d ≡ false → true ≡ may_share_point a b c d
unfolding may_share_point
off_grid a b c d h = rw h

pub first_off : (a b c d : Coord) → grid_point_of a ≡ None → true ≡ may_share_point a b c d
unfolding all_on_grid
first_off a b c d e = off_grid a b c d (rw (grid_point_off a e))

pub second_off : (a b c d : Coord) → grid_point_of b ≡ None → true ≡ may_share_point a b c d
second_off a b c d e = first_off b a c d e ∙ may_other_way b a c d

pub third_off : (a b c d : Coord) → grid_point_of c ≡ None → true ≡ may_share_point a b c d
third_off a b c d e = first_off c d a b e ∙ may_other_first c d a b

pub fourth_off : (a b c d : Coord) → grid_point_of d ≡ None → true ≡ may_share_point a b c d
fourth_off a b c d e = second_off c d a b e ∙ may_other_first c d a b

pub all-on : (a b c d : Coord) (p q r s : Point) (v : Bool) → v ≡ shares_point p q r s → grid_point_of a ≡ Some p
    → grid_point_of b ≡ Some q → grid_point_of c ≡ Some r → grid_point_of d ≡ Some s → v ≡ may_share_point a b c d
unfolding may_share_point all_on_grid
all-on a b c d p q r s v w e f g h =
    let i = at_told a p e in
    let j = at_told b q f in
    let k = at_told c r g in
    let l = at_told d s h in
    rw (i.0, j.0, k.0, l.0, i.1, j.1, k.1, l.1) w

-- ---- the test says what is meant

pub may_decided : (a b c d : Coord) → Decides (may_share_point a b c d) (MaySharePoint a b c d)
unfolding may_share_point
may_decided a b c d = (
  λ m h. (shares_decided (point_of a) (point_of b) (point_of c) (point_of d)).0 (rw h at m),
  λ f. go f (all_on_grid a b c d) refl,
)
  where
    go : MaySharePoint a b c d → (t : Bool) → all_on_grid a b c d ≡ t
        → not (all_on_grid a b c d) || shares_point (point_of a) (point_of b) (point_of c) (point_of d) ≡ true
    go f true e = rw (e, (shares_decided (point_of a) (point_of b) (point_of c) (point_of d)).1 (f e))
    go f false e = rw e

-- both promises of `may_share_point`
pub answered : (a b c d : Coord) (r : Bool) → r ≡ may_share_point a b c d → (r ≡ may_share_point a b c d) × Decides r (MaySharePoint a b c d)
answered a b c d r e = (e, subst (λ (v : Bool). Decides v (MaySharePoint a b c d)) (sym e) (may_decided a b c d))
