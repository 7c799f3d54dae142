-- A finite number as a whole number: each taken times 2 ^ low, which for a double is 2 ^ 1074 (document 01, "Cut rings"). Every number of
-- the format is whole then. Definitions only.
use Rattle.std.specs.Prelude.{ℕ, ◌+◌, ◌*◌, ◌/◌, ◌^◌, ◌≤◌, Bool, false, cond, Float}
use Rattle.std.specs.Float.{nan, inf, fin, Format}
use Rattle.std.specs.Float.Ieee.{low, up, down}

abbrev pub sign : Float → Bool
sign nan = false
sign (inf s) = s
sign (fin s m e) = s

-- the size, and 0 for what is not finite; of a number of the format nothing is rounded off, since `down e` divides 2 ^ low there
abbrev pub mag : Format → Float → ℕ
mag f nan = 0
mag f (inf s) = 0
mag f (fin s m e) = m * up e * 2 ^ low f / down e

-- the part above zero and the part below zero: the number is `above_zero` less `below_zero`, and one of the two is 0; both are 0 for both
-- zeros
unfoldable pub above_zero : Format → Float → ℕ
above_zero f x = cond (sign x) 0 (mag f x)

unfoldable pub below_zero : Format → Float → ℕ
below_zero f x = cond (sign x) (mag f x) 0

-- a less b is at most e
abbrev pub LessAtMost : Format → Float → Float → ℕ → Type 0
LessAtMost f a b e = above_zero f a + below_zero f b ≤ above_zero f b + below_zero f a + e
