-- `feed_lines` meets its contract. The invariant: what the characters so far print waits in the output. Assumes nothing.
use mathlib.Core.Path.{◌≡◌}
use Prim.Native.Nat.{◌-◌, ◌≤◌}
use lib.ListN.{length, take}
use Rattle.lines.specs.LineStep.{Prints}
use Rattle.lines.proofs.feed.feed_lines.Given as goal

abbrev pub invariant-loop-from : goal.invariant-loop-from
invariant-loop-from l = (length l.kept ≡ length l.initial.kept) × (length l.out ≡ length l.initial.out) × (l.from ≡ 0 → l.waiting ≡ 0) × (l.from ≤ length l.block)
    × Prints (take l.from l.block) l.initial.known l.initial.kept l.initial.out l.waiting l.known l.kept l.out

abbrev pub decreases-loop-from : goal.decreases-loop-from
decreases-loop-from l = length l.block - l.from
