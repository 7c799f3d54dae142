-- The exact crossing, and what it is to be within so much of it (document 02, Point 8): "the exact one being a fraction of whole numbers
-- scaled from the doubles". Numbers are whole here, each double times 2^1074 (specs/Scaled.antt). A fraction is kept in its parts, and both
-- sides are taken times its divisor, so that nothing is divided. Definitions only.
use Rattle.std.specs.Prelude.{ℕ, ◌+◌, ◌-◌, ◌*◌, ◌≤◌, ◌<◌, T, Float}
use Rattle.std.specs.Float.{Format}
use Rattle.std.specs.Float.Ieee.Scale.{finite}
use Rattle.binary64.specs.Scaled.{above_zero, below_zero}

-- how far apart two whole numbers are: of the two differences the one that would be below zero is 0; and two doubles, as whole numbers
abbrev pub distance : ℕ → ℕ → ℕ
distance a b = a - b + (b - a)

abbrev pub units_apart : Format → Float → Float → ℕ
units_apart f a b = distance (above_zero f a + below_zero f b) (below_zero f a + above_zero f b)

-- (plus − minus) ÷ divisor
pub record Fraction : Type 0 where
  pub plus : ℕ
  pub minus : ℕ
  pub divisor : ℕ

-- `interpolate` without its roundings: start_free + n ÷ m × (end_free − start_free), as one fraction over m. In the fixed coordinate n is
-- the distance from the start to the line, and m that from the start to the end. Where one end is in and the other out, the line lies
-- between them, and n ÷ m is (bound − start_fixed) ÷ (end_fixed − start_fixed). For other ends, and where a number is not finite, it means
-- nothing.
abbrev pub exact_crossing : Format → Float → Float → Float → Float → Float → Fraction
exact_crossing f bound start_fixed end_fixed start_free end_free =
    let n = units_apart f bound start_fixed in
    let m = units_apart f end_fixed start_fixed in
    record {
      plus = m * above_zero f start_free + n * (above_zero f end_free + below_zero f start_free);
      minus = m * below_zero f start_free + n * (below_zero f end_free + above_zero f start_free);
      divisor = m;
    }

-- "within": x is finite, and as a whole number it is at most e above q (`above-by`) and at most e below it (`below_by`), e counting as x
-- and q do. Each line is taken times the divisor, and what is below zero stands on the other side of it.
pub record OffAtMost (f : Format) (x : Float) (q : Fraction) (e : ℕ) : Type 0 where
  pub is_finite : T (finite x)
  pub is_fraction : 0 < q.divisor
  pub above-by : q.divisor * above_zero f x + q.minus ≤ q.divisor * below_zero f x + q.plus + q.divisor * e
  pub below_by : q.divisor * below_zero f x + q.plus ≤ q.divisor * above_zero f x + q.minus + q.divisor * e
