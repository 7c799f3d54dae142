-- How far a crossing may be from the exact one (document 02, Point 8). What is exact, and what it is to be within so much of it, says
-- `ExactCrossing` of the crate `binary64`. Definitions only.
use Rattle.std.specs.Prelude.{◌≡◌, not, ℕ, ◌^◌, T}
use Rattle.std.specs.Float.{binary64}
use Rattle.binary64.specs.Compare.{at_most_256}
use Rattle.binary64.specs.ExactCrossing.{Fraction, exact_crossing, OffAtMost}
use Rattle.tile.specs.declared.Coord.{Coord}
use Rattle.tile.specs.declared.TileBounds.{TileBounds}
use Rattle.tile.specs.declared.Edge.{Edge}
use Rattle.tile.specs.Magnitude.{CoordAtMost256}
use Rattle.cutting_lines.specs.CuttingLines.{fixed, free, bound, inside}

-- "one cut between two finite vertices, one in and one out, all numbers at most 256 in magnitude": from s to e, at the line l. Of the four
-- bounds only the line's own counts.
abbrev pub OneCut : Edge → TileBounds → Coord → Coord → Type 0
OneCut l b s e = (inside l b e ≡ not (inside l b s)) × T (at_most_256 (bound l b)) × CoordAtMost256 s × CoordAtMost256 e

-- "the exact crossing", in the coordinate that the line leaves free
abbrev pub exact_free : Edge → TileBounds → Coord → Coord → Fraction
exact_free l b s e = exact_crossing binary64 (bound l b) (fixed l s) (fixed l e) (free l s) (free l e)

-- 1/2^40, times 2^1074. 2^1032 is proved too (`crossing_off` in proofs/CrossingLaws.antt), and 2^1031 would be false (`far-above` in
-- proofs/Cases.antt).
abbrev pub crossing_error : ℕ
crossing_error = 2 ^ 1034

-- "the computed free coordinate is within 1/2^40 of the exact crossing": p is what is computed. It is of one cut; in a later pass s and e
-- may be crossings themselves, and then it is of the edge between these.
abbrev pub WithinError : Edge → TileBounds → Coord → Coord → Coord → Type 0
WithinError l b s e p = OneCut l b s e → OffAtMost binary64 (free l p) (exact_free l b s e) crossing_error
