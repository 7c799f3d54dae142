-- Cuts and their exact crossings, computed from the definitions. Two are off by more than half of what `crossing_off` allows, one above the
-- exact crossing and one below it: so no smaller power of two could be promised. What is no number, or no cut, is within nothing. Assumes
-- nothing.
use mathlib.Core.Path.{refl}
use Prim.Native.Nat.{ℕ, ◌+◌, ◌-◌, ◌^◌}
use mathlib.Core.Bool.{true, false}
use native.Mathlib.Nat.{not-le_of_lt, lt_irrefl}
use lib.Dec.{lit≤, lit<}
use lib.Ieee.{Float, nan, binary64, round, le, add, sub, mul, div, neg}
use Rattle.binary64.specs.Interpolation.{interpolate}
use Rattle.binary64.specs.Scaled.{above_zero, below_zero}
use Rattle.binary64.specs.ExactCrossing.{Fraction, OffAtMost}
use Rattle.tile.specs.declared.Coord.{Coord}
use Rattle.tile.specs.declared.TileBounds.{TileBounds}
use Rattle.tile.specs.declared.Edge.{Edge}
use Rattle.tile.specs.declared.Edge.TheVariants.{Left, Right, Bottom, Top}
use Rattle.cutting_lines.specs.CuttingLines.{free, inside, crossing}
use Rattle.cutting_lines.specs.CrossingError.{OneCut, exact_free}

-- a / c as a double, and its negative
value : ℕ → ℕ → Float
unfolding round
value a c = round binary64 false a c

minus : ℕ → ℕ → Float
unfolding round
minus a c = round binary64 true a c

-- a line, and an edge from one vertex to another
record Cut : Type 0 where
  line : Edge
  at : Float
  start : Coord
  end : Coord

-- of the four bounds only the line's own is a number
bounds : Cut → TileBounds
bounds c = only c.line c.at
  where
    only : Edge → Float → TileBounds
    only Left x = record { lng_min = x; lat_min = nan; lng_max = nan; lat_max = nan }
    only Right x = record { lng_min = nan; lat_min = nan; lng_max = x; lat_max = nan }
    only Bottom x = record { lng_min = nan; lat_min = x; lng_max = nan; lat_max = nan }
    only Top x = record { lng_min = nan; lat_min = nan; lng_max = nan; lat_max = x }

abbrev Asked : Cut → Type 0
Asked c = OneCut c.line (bounds c) c.start c.end

-- the computed crossing is off the exact one by at most e
abbrev Off : Cut → ℕ → Type 0
Off c e =
    OffAtMost binary64 (free c.line (crossing c.line (bounds c) c.start c.end))
    (exact_free c.line (bounds c) c.start c.end) e

-- from (15, 8) to (-5, 4), at east 10: 7
exact : Cut
unfolding value minus
exact =
    record {
      line = Right;
      at = value 10 1;
      start = record { x = value 15 1; y = value 8 1 };
      end = record { x = minus 5 1; y = value 4 1 };
    }

exact_off : Asked exact × Off exact 0
unfolding crossing interpolate inside above_zero below_zero bounds exact value minus round le add sub mul div neg
exact_off = ((refl, tt, (tt, tt), (tt, tt)), record { is_finite = tt; is_fraction = lit< tt; above-by = lit≤ tt; below_by = lit≤ tt })

-- from (0, 0) to (1, 3), at north 1: 1/3, which as a double is off by a third of 1 / 2 ^ 54
third : Cut
unfolding value
third =
    record {
      line = Top;
      at = value 1 1;
      start = record { x = value 0 1; y = value 0 1 };
      end = record { x = value 1 1; y = value 3 1 };
    }

third_off : Asked third × Off third (2 ^ 1019)
unfolding crossing interpolate inside above_zero below_zero bounds third value round le add sub mul div neg
third_off = ((refl, tt, (tt, tt), (tt, tt)), record { is_finite = tt; is_fraction = lit< tt; above-by = lit≤ tt; below_by = lit≤ tt })

-- Both differences in the first coordinate are halfway between two doubles, and so is the one in the second: the quotient comes out as 1
-- and the crossing as 256, which is more than 1 / 2 ^ 43 too much.
far : Cut
unfolding value minus
far =
    record {
      line = Left;
      at = value (2 ^ 52 + 1) (2 ^ 52);
      start = record { x = minus 1 (2 ^ 53); y = minus 256 1 };
      end = record { x = value (2 ^ 51 + 1) (2 ^ 51); y = value (2 ^ 53 - 1) (2 ^ 45) };
    }

far-above : Asked far × (Off far (2 ^ 1031) → ⊥)
unfolding crossing interpolate inside above_zero below_zero bounds far value minus round le add sub mul div neg
far-above = ((refl, tt, (tt, tt), (tt, tt)), λ o. not-le_of_lt (lit< tt) o.above-by)

-- the same with the other signs, at south: -256, and as much too little
negated : Cut
unfolding value minus
negated =
    record {
      line = Bottom;
      at = minus (2 ^ 52 + 1) (2 ^ 52);
      start = record { x = value 256 1; y = value 1 (2 ^ 53) };
      end = record { x = minus (2 ^ 53 - 1) (2 ^ 45); y = minus (2 ^ 51 + 1) (2 ^ 51) };
    }

far-below : Asked negated × (Off negated (2 ^ 1031) → ⊥)
unfolding crossing interpolate inside above_zero below_zero bounds negated value minus round le add sub mul div neg
far-below = ((refl, tt, (tt, tt), (tt, tt)), λ o. not-le_of_lt (lit< tt) o.below_by)

-- an edge of one point, which is in: the quotient of two zeros
point : Cut
unfolding value
point =
    record {
      line = Left;
      at = value 0 1;
      start = record { x = value 0 1; y = value 0 1 };
      end = record { x = value 0 1; y = value 0 1 };
    }

no_cut : (e : ℕ) → Off point e → ⊥
unfolding crossing interpolate above_zero below_zero bounds point value round add sub mul div neg
no_cut e o = o.is_finite

-- a NaN, and what is over 0
no_number : (q : Fraction) (e : ℕ) → OffAtMost binary64 nan q e → ⊥
no_number q e o = o.is_finite

no_fraction : (x : Float) (p m e : ℕ) → OffAtMost binary64 x (record { plus = p; minus = m; divisor = 0 }) e → ⊥
no_fraction x p m e o = lt_irrefl 0 o.is_fraction
