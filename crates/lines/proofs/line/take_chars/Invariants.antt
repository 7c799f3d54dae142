-- `take_chars` meets its contract. The invariant: the characters so far are read on within the line. Assumes nothing.
use mathlib.Core.Path.{◌≡◌}
use lib.ListN.{length}
use Rattle.lines.specs.Internal.{state_of, ReadsOn}
use Rattle.lines.proofs.line.take_chars.Given as goal

abbrev pub invariant-loop-at : goal.invariant-loop-at
invariant-loop-at l = (length l.kept ≡ length l.initial.kept) × ReadsOn l.block l.from (state_of l.initial.reached l.initial.kept) l.at (state_of l.reached l.kept)
