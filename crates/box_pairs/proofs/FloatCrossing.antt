-- Laws of the crossing test in floats: symmetric, not between boxes that are apart, not where a coordinate is NaN. Assumes nothing.
use mathlib.Core.Path.{◌≡◌, refl, sym, ◌∙◌}
use mathlib.Core.Bool.{Bool, true, false, not, ◌||◌, cond, and-true, and-false, or-false, and_comm, or_comm}
use mathlib.Mathlib.Data.Bool.Basic.{eq-false_of_not-eq-true}
use lib.Ieee.{Float, binary64, is_nan, lt, sub, mul}
use Rattle.binary64.specs.Compare.{minimum, maximum}
use Rattle.binary64.specs.Internal.{lower, higher}
use Rattle.binary64.proofs.Booleans.{both, never_both}
use Rattle.binary64.proofs.Comparisons.{lower-minimum, higher-maximum}
use Rattle.binary64.proofs.FloatOrder.{lt-not-above, lt-left, lt-right, lt_asym, sub-numbers, mul-numbers, ends, ends-order, ends_low}
use Rattle.binary64.proofs.FloatOrder.{ends_high}
use Rattle.tile.specs.declared.Coord.{Coord}
use Rattle.box_pairs.specs.Cross.{cross_product_sign, zero64, above_below, splits, intersect_properly, degenerate, apart_on, apart}
use Rattle.box_pairs.specs.Cross.{cross_in_floats}
use Rattle.box_pairs.specs.Internal.{separate}

-- ---- symmetric

pub mirror : (a1 a2 b1 b2 : Coord) → cross_in_floats a1 a2 b1 b2 ≡ cross_in_floats b1 b2 a1 a2
unfolding cross_in_floats apart apart_on intersect_properly
mirror a1 a2 b1 b2 =
    rw (
      or_comm (lt (maximum a1.x a2.x) (minimum b1.x b2.x)) (lt (maximum b1.x b2.x) (minimum a1.x a2.x)),
      or_comm (lt (maximum a1.y a2.y) (minimum b1.y b2.y)) (lt (maximum b1.y b2.y) (minimum a1.y a2.y)),
      or_comm (degenerate a1 a2) (degenerate b1 b2),
      and_comm (splits b1 b2 a1 a2) (splits a1 a2 b1 b2),
    )

-- ---- boxes

-- edges whose boxes are apart do not cross_in_floats
boxes_apart_lem : (a1 a2 b1 b2 : Coord) → apart a1 a2 b1 b2 ≡ true → cross_in_floats a1 a2 b1 b2 ≡ false
unfolding cross_in_floats
boxes_apart_lem a1 a2 b1 b2 e = rw e

-- so an edge that starts past the end of another does not cross it
pub apart-left : (a1 a2 b1 b2 : Coord) → lt (maximum a1.x a2.x) (minimum b1.x b2.x) ≡ true → cross_in_floats a1 a2 b1 b2 ≡ false
unfolding apart apart_on
apart-left a1 a2 b1 b2 e = boxes_apart_lem a1 a2 b1 b2 (rw e)

-- ---- NaN: edges that split each other hold none

-- none of four is a NaN
pub record NoNan (a b c d : Float) : Type 0 where
  pub first : is_nan a ≡ false
  pub second : is_nan b ≡ false
  pub third : is_nan c ≡ false
  pub fourth : is_nan d ≡ false

above-numbers : (d e : Float) → above_below d e ≡ true → (is_nan d ≡ false) × (is_nan e ≡ false)
unfolding above_below
above-numbers d e h =
    let t = both (lt zero64 d) (lt e zero64) h in
    (lt-right zero64 d t.0, lt-left e zero64 t.1)

sides-numbers : (d e : Float) → (above_below d e || above_below e d) ≡ true → (is_nan d ≡ false) × (is_nan e ≡ false)
sides-numbers d e h = go (above_below d e) refl
  where
    go : (b : Bool) → above_below d e ≡ b → (is_nan d ≡ false) × (is_nan e ≡ false)
    go true t = above-numbers d e t
    go false t = let q = above-numbers e d (rw t at h) in (q.1, q.0)

-- the numbers of three coordinates
record Sides (a b c : Coord) : Type 0 where
  ax : is_nan a.x ≡ false
  ay : is_nan a.y ≡ false
  bx : is_nan b.x ≡ false
  by : is_nan b.y ≡ false
  cx : is_nan c.x ≡ false
  cy : is_nan c.y ≡ false

product_numbers : (a b c : Coord) → is_nan (cross_product_sign a b c) ≡ false → Sides a b c
unfolding cross_product_sign
product_numbers a b c h =
    let terms = sub-numbers (mul binary64 (sub binary64 b.x a.x) (sub binary64 c.y a.y))
    (mul binary64 (sub binary64 b.y a.y) (sub binary64 c.x a.x)) h in
    let one = mul-numbers (sub binary64 b.x a.x) (sub binary64 c.y a.y) terms.0 in
    let two = mul-numbers (sub binary64 b.y a.y) (sub binary64 c.x a.x) terms.1 in
    let x = sub-numbers b.x a.x one.0 in
    let y = sub-numbers c.y a.y one.1 in
    let z = sub-numbers b.y a.y two.0 in
    let w = sub-numbers c.x a.x two.1 in
    record { ax = x.1; ay = y.1; bx = x.0; by = z.0; cx = w.0; cy = y.0 }

splits-numbers : (a b c d : Coord) → splits a b c d ≡ true → NoNan a.x b.x c.x d.x × NoNan a.y b.y c.y d.y
unfolding splits
splits-numbers a b c d h =
    let n = sides-numbers (cross_product_sign a b c) (cross_product_sign a b d) h in
    let p = product_numbers a b c n.0 in
    let q = product_numbers a b d n.1 in (
      record { first = p.ax; second = p.bx; third = p.cx; fourth = q.cx },
      record {
        first = p.ay;
        second = p.by;
        third =
            p.cy;
        fourth = q.cy;
      },
    )

properly_numbers : (a1 a2 b1 b2 : Coord) → intersect_properly a1 a2 b1 b2 ≡ true → NoNan a1.x a2.x b1.x b2.x
    × NoNan a1.y a2.y b1.y b2.y
unfolding intersect_properly
properly_numbers a1 a2 b1 b2 h = splits-numbers a1 a2 b1 b2 (both (splits b1 b2 a1 a2) (splits a1 a2 b1 b2) h).1

-- ---- the boxes of numbers, by one comparison

spread : (la ha lb hb : Float) → is_nan la ≡ false → is_nan lb ≡ false → is_nan hb ≡ false → lt ha la ≡ false → lt hb lb ≡ false
    → lt (lower hb ha) (higher lb la) ≡ lt ha lb || lt hb la
unfolding lower higher
spread la ha lb hb na nb nh oa ob = go (lt ha hb) refl (lt lb la) refl
  where
    go : (p : Bool) → lt ha hb ≡ p → (q : Bool) → lt lb la ≡ q → lt (cond (lt ha hb) ha hb) (cond (lt lb la) la lb) ≡ lt ha lb || lt hb la
    go true p true q =
        let x : lt ha lb ≡ false = eq-false_of_not-eq-true (λ e. never_both (lt-not-above ha lb la na e (lt_asym lb la q)) oa) in
        let y : lt hb la ≡ false = eq-false_of_not-eq-true (λ e. never_both (lt-not-above ha hb la na p (lt_asym hb la e)) oa) in
        rw (p, q, oa, x, y)
    go true p false q =
        let y : lt hb la ≡ false = eq-false_of_not-eq-true (λ e. never_both (lt-not-above hb la lb nb e q) ob) in
        rw (p, q, y) (sym (or-false (lt ha lb)))
    go false p true q =
        let x : lt ha lb ≡ false = eq-false_of_not-eq-true (λ e. never_both (lt-not-above ha lb hb nh e ob) p) in
        rw (p, q, x)
    go false p false q =
        let x : lt ha lb ≡ false = eq-false_of_not-eq-true (λ e. never_both (lt-not-above ha lb hb nh e ob) p) in
        let y : lt hb la ≡ false = eq-false_of_not-eq-true (λ e. never_both (lt-not-above hb la lb nb e q) ob) in
        rw (p, q, ob, x, y)

pub minimum-is-number : (a b : Float) → is_nan a ≡ false → is_nan b ≡ false → is_nan (minimum a b) ≡ false
minimum-is-number a b na nb = ends_low (λ z. is_nan z ≡ false) (ends a b) na nb

maximum-is-number : (a b : Float) → is_nan a ≡ false → is_nan b ≡ false → is_nan (maximum a b) ≡ false
maximum-is-number a b na nb = ends_high (λ z. is_nan z ≡ false) (ends a b) na nb

-- of numbers, the one comparison says whether the boxes are apart
pub separate-apart : (a1 a2 b1 b2 : Float) → NoNan a1 a2 b1 b2 → separate a1 a2 b1 b2 ≡ apart_on a1 a2 b1 b2
unfolding separate apart_on
separate-apart a1 a2 b1 b2 n =
    let na = minimum-is-number a1 a2 n.first n.second in
    let nb = minimum-is-number b1 b2 n.third n.fourth in
    let nh = maximum-is-number b1 b2 n.third n.fourth in
    rw (lower-minimum a1 a2 n.first, higher-maximum a1 a2 n.first, lower-minimum b1 b2 n.third, higher-maximum b1 b2 n.third)
    (spread (minimum a1 a2) (maximum a1 a2) (minimum b1 b2) (maximum b1 b2) na nb nh (ends-order (ends a1 a2)) (ends-order (ends b1 b2)))

-- ---- the ways to the verdict

pub not_properly : (a1 a2 b1 b2 : Coord) → intersect_properly a1 a2 b1 b2 ≡ false → cross_in_floats a1 a2 b1 b2 ≡ false
unfolding cross_in_floats
not_properly a1 a2 b1 b2 h = rw (h, and-false (not (degenerate a1 a2 || degenerate b1 b2))) (and-false (not (apart a1 a2 b1 b2)))

-- edges that the comparison finds apart in an axis do not cross_in_floats
pub apart_x : (a1 a2 b1 b2 : Coord) → separate a1.x a2.x b1.x b2.x ≡ true → cross_in_floats a1 a2 b1 b2 ≡ false
unfolding apart
apart_x a1 a2 b1 b2 h = go (intersect_properly a1 a2 b1 b2) refl
  where
    go : (p : Bool) → intersect_properly a1 a2 b1 b2 ≡ p → cross_in_floats a1 a2 b1 b2 ≡ false
    go true e =
        let t : apart_on a1.x a2.x b1.x b2.x ≡ true =
        sym (separate-apart a1.x a2.x b1.x b2.x (properly_numbers a1 a2 b1 b2 e).0) ∙ h in
        boxes_apart_lem a1 a2 b1 b2 (rw t)
    go false e = not_properly a1 a2 b1 b2 e

pub apart_y : (a1 a2 b1 b2 : Coord) → separate a1.y a2.y b1.y b2.y ≡ true → cross_in_floats a1 a2 b1 b2 ≡ false
unfolding apart
apart_y a1 a2 b1 b2 h = go (intersect_properly a1 a2 b1 b2) refl
  where
    go : (p : Bool) → intersect_properly a1 a2 b1 b2 ≡ p → cross_in_floats a1 a2 b1 b2 ≡ false
    go true e =
        let t : apart_on a1.y a2.y b1.y b2.y ≡ true =
        sym (separate-apart a1.y a2.y b1.y b2.y (properly_numbers a1 a2 b1 b2 e).1) ∙ h in
        boxes_apart_lem a1 a2 b1 b2 (rw t (or_comm (apart_on a1.x a2.x b1.x b2.x) true))
    go false e = not_properly a1 a2 b1 b2 e

-- edges that split each other, and whose boxes are not apart, cross if they are long enough
pub properly : (a1 a2 b1 b2 : Coord) → intersect_properly a1 a2 b1 b2 ≡ true
    → separate a1.x a2.x b1.x b2.x ≡ false → separate a1.y a2.y b1.y b2.y ≡ false
    → cross_in_floats a1 a2 b1 b2 ≡ not (degenerate a1 a2 || degenerate b1 b2)
unfolding cross_in_floats apart
properly a1 a2 b1 b2 e hx hy =
    let n = properly_numbers a1 a2 b1 b2 e in
    let x : apart_on a1.x a2.x b1.x b2.x ≡ false = sym (separate-apart a1.x a2.x b1.x b2.x n.0) ∙ hx in
    let y : apart_on a1.y a2.y b1.y b2.y ≡ false = sym (separate-apart a1.y a2.y b1.y b2.y n.1) ∙ hy in
    rw (x, y, e) (and-true (not (degenerate a1 a2 || degenerate b1 b2)))

-- "no crossing where a coordinate is NaN": edges that cross hold numbers only
pub numbers : (a1 a2 b1 b2 : Coord) → cross_in_floats a1 a2 b1 b2 ≡ true → NoNan a1.x a2.x b1.x b2.x
    × NoNan a1.y a2.y b1.y b2.y
numbers a1 a2 b1 b2 h = properly_numbers a1 a2 b1 b2 (go (intersect_properly a1 a2 b1 b2) refl)
  where
    go : (p : Bool) → intersect_properly a1 a2 b1 b2 ≡ p → intersect_properly a1 a2 b1 b2 ≡ true
    go true e = e
    go false e = absurd (never_both h (not_properly a1 a2 b1 b2 e))
