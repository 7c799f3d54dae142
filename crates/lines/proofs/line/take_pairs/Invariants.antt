-- `take_pairs` meets its contract. The invariant: the characters so far are read on within the line. Assumes nothing.
use mathlib.Core.Path.{◌≡◌}
use Prim.Native.Nat.{◌-◌}
use lib.ListN.{length, take}
use Rattle.lines.specs.Internal.{whole, ReadsOn}
use Rattle.lines.proofs.line.take_pairs.Given as goal

abbrev pub invariant-loop-at : goal.invariant-loop-at
invariant-loop-at l = (length l.kept ≡ length l.initial.kept) × ReadsOn l.block 0 (whole (take l.bytes l.initial.kept)) l.at (whole (take l.n l.kept))

abbrev pub decreases-loop-at : goal.decreases-loop-at
decreases-loop-at l = length l.block - l.at
