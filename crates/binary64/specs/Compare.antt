-- Comparisons of doubles as document 01 uses them: minimum and maximum (its head), nearness ("Unchanged", "Overlay wanted"), size ("Overlay
-- wanted"; demand 3 and document 02, Point 8). That a number is neither NaN nor infinite is `finite` of `lib.Ieee.Scale`. Definitions only.
use Rattle.std.specs.Prelude.{Bool, true, false, ◌&&◌, ◌||◌, cond, ◌^◌, pos}
use lib.Ieee.{Float, nan, inf, fin, binary64, is_nan, lt, le, sub, round}

-- "the minimum and maximum that pass over NaN; of two equal numbers they keep the first" (document 01, the head)
unfoldable pub minimum : Float → Float → Float
minimum a b = cond (lt b a || is_nan a) b a

unfoldable pub maximum : Float → Float → Float
maximum a b = cond (lt a b || is_nan a) b a

-- a number without its sign
unfoldable pub magnitude : Float → Float
magnitude nan = nan
magnitude (inf s) = inf false
magnitude (fin s m e) = fin false m e

-- 1e-10, the double nearest to it
unfoldable pub tolerance : Float
unfolding round
tolerance = round binary64 false 1 (10 ^ 10)

-- "differ by less than 1e-10" (document 01, "Unchanged"), "within 1e-10 (strictly)" ("Overlay wanted"): one rounded difference
unfoldable pub near : Float → Float → Bool
near a b = lt (magnitude (sub binary64 a b)) tolerance

-- 1e150, the double nearest to it
unfoldable pub overlay_limit : Float
unfolding round
overlay_limit = round binary64 false (10 ^ 150) 1

-- "magnitude 1e150 or more" (document 01, "Overlay wanted")
unfoldable pub huge : Float → Bool
huge x = le overlay_limit (magnitude x)

-- finite, and at most 256 in magnitude (demand 3; document 02, Point 8): 256 is 1 times 2^8
abbrev pub at_most_256 : Float → Bool
at_most_256 x = le (fin true 1 (pos 8)) x && le x (fin false 1 (pos 8))
