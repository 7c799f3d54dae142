-- What one line of the cutter works out (document 01, "Cut rings"): the test whether a vertex is in, and a crossing's free coordinate. A
-- line fixes one coordinate, x for Left and Right, y for Bottom and Top; the other is free. Definitions only.
use Rattle.std.specs.Prelude.{Bool, true, false, Float}
use Rattle.std.specs.Float.{Format}
use Rattle.std.specs.Float.Ieee.{add, sub, mul, div, le}

-- Whether v is in, by the line at c: a low line (Left, Bottom) keeps what is at c or above it, a high one (Right, Top) what is at c or
-- below it. So on the line counts as in, and NaN is out.
abbrev pub within : Bool → Float → Float → Bool
within true c v = le c v
within false c v = le v c

-- The crossing's free coordinate, where the line takes `bound` in the fixed one: start plus t times (end − start), t being
-- (bound − start) ÷ (end − start) in the fixed coordinate. Each difference, quotient, product and sum is rounded once.
unfoldable pub interpolate : Format → Float → Float → Float → Float → Float → Float
interpolate f bound start_fixed end_fixed start_free end_free =
    let t = div f (sub f bound start_fixed) (sub f end_fixed start_fixed) in
    add f start_free (mul f t (sub f end_free start_free))
