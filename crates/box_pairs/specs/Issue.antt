-- What is wrong with an exterior (document 01, "Unchanged"), and where (document 02, Point 1). Definitions only.
use Rattle.std.specs.Prelude.{Bool, true, false, cond, List, [], ◌∷◌, ℕ, suc, ltb, length, Option, Some, None}
use Rattle.tile.specs.declared.Coord.{Coord}
use Rattle.box_pairs.specs.declared.Issue.{Issue}
use Rattle.box_pairs.specs.declared.Issue.TheVariants.{Sound, Short, Repeated, Crossing}
use Rattle.box_pairs.specs.declared.pairs.Pair.{Pair}
use Rattle.box_pairs.specs.Cross.{degenerate}
use Rattle.box_pairs.specs.Pairs.{first_pair}

-- the first of the earliest two neighbours that "differ by less than 1e-10 in x and in y, the last segment excepted", in a list whose
-- first position is k
unfoldable pub repeated_from : ℕ → List Coord → Option ℕ
repeated_from k [] = None
repeated_from k (p ∷ []) = None
repeated_from k (p ∷ q ∷ []) = None
repeated_from k (p ∷ q ∷ s ∷ r) = cond (degenerate p q) (Some k) (repeated_from (suc k) (q ∷ s ∷ r))

-- "the position, from 0, of the first of the earliest such pair"
abbrev pub first_repeated : List Coord → Option ℕ
first_repeated r = repeated_from 0 r

abbrev pub repeated_or : Option ℕ → Issue → Issue
repeated_or None issue = issue
repeated_or (Some k) issue = Repeated k

abbrev pub crossing_at : Option Pair → Issue
crossing_at None = Sound
crossing_at (Some p) = Crossing p.lower p.higher

-- "unless `assume_simple` is set, two edges cross"; "both edge numbers, from 0 and the lower first"
abbrev pub crossing_of : Bool → List Coord → Issue
crossing_of simple r = cond simple Sound (crossing_at (first_pair r))

-- "An exterior has an issue if it has fewer than 4 coordinates; or two neighbours ..; or, unless `assume_simple` is set, two edges cross";
-- "Short comes before repeated, and repeated before crossing."
unfoldable pub issue_of : Bool → List Coord → Issue
issue_of simple r = cond (ltb (length r) 4) Short (repeated_or (first_repeated r) (crossing_of simple r))

-- whether document 01 calls it an issue: all but `Sound`
unfoldable pub has_issue : Issue → Bool
has_issue Sound = false
has_issue Short = true
has_issue (Repeated k) = true
has_issue (Crossing i j) = true
