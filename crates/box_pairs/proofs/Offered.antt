-- Laws that this crate offers to those above it beside its contracts. By these they know the issue of an exterior; they unfold none of it.
-- Assumes nothing.
use mathlib.Core.Path.{◌≡◌, refl, ◌∙◌}
use mathlib.Core.Bool.{Bool, true, false, ◌||◌, or-false}
use mathlib.Core.List.{List}
use Prim.Native.Nat.{ℕ, ◌+◌, ◌<◌, ◌≤◌}
use lib.ListN.{length, get_or, drop}
use borrow.Author.Tests.{lt-ltb, le-ltb}
use Rattle.tile.specs.declared.Coord.{Coord}
use Rattle.tile.specs.Ring.{same}
use Rattle.box_pairs.specs.declared.Issue.TheVariants.{Sound}
use Rattle.std.specs.Prelude.{None}
use Rattle.box_pairs.specs.Internal.{PairBelow, IssueBelow}
use Rattle.box_pairs.specs.Cross.{degenerate}
use Rattle.box_pairs.specs.Pairs.{first_pair}
use Rattle.box_pairs.specs.Internal.{repeated}
use Rattle.box_pairs.specs.Issue.{first_repeated, issue_of, has_issue}
use Rattle.box_pairs.proofs.EdgeLaws as edges
use Rattle.box_pairs.proofs.Issues as issues

-- ---- neighbours that repeat

-- two coordinates have one segment, the last, which is excepted
pub repeated-few : (l : List Coord) → length l ≤ 2 → repeated l ≡ false
repeated-few = issues.few

-- from a coordinate on: its segment is short, or one repeats from the next coordinate on
pub repeated-from : (l : List Coord) (k : ℕ) (z : Coord) → k + 2 < length l
    → repeated (drop k l) ≡ degenerate (get_or l k z) (get_or l (k + 1) z) || repeated (drop (k + 1) l)
repeated-from = issues.one_more

-- where none repeat, no position is told
pub repeated-none : (l : List Coord) → repeated l ≡ false → first_repeated l ≡ None
repeated-none = issues.first-none

-- a coordinate that differs from itself, since it holds a NaN, is near none
pub near_none : (a p : Coord) → same p p ≡ false → degenerate a p ≡ false
near_none = issues.near_none

-- ---- the issue of an exterior that is assumed to be simple

-- fewer than 4 coordinates are an issue
pub simple_short : (r : List Coord) → length r < 4 → has_issue (issue_of true r) ≡ true
unfolding issue_of has_issue
simple_short r h = rw (lt-ltb (length r) 4 h)

-- of 4 or more it is only neighbours that repeat
pub simple_long : (r : List Coord) → 4 ≤ length r → has_issue (issue_of true r) ≡ repeated r
simple_long r h = issues.issue_verdict true r ∙ rw (le-ltb (length r) 4 h) (or-false (repeated r))

-- ---- an exterior without an issue

pub sound_none : has_issue Sound ≡ false
unfolding has_issue
sound_none = refl

-- ---- the positions that are told

-- an issue's are those of coordinates of the ring
pub issue_below : (n : ℕ) (b : Bool) (r : List Coord) → length r ≤ n → IssueBelow n (issue_of b r)
issue_below = issues.issue_below

-- and so are those of the first pair of edges that cross
pub pair_below : (n : ℕ) (r : List Coord) → length r ≤ n → PairBelow n (first_pair r)
pair_below = edges.pair_below
