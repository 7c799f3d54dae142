-- `next_kept` meets its contract: the loop goes past what is near the coordinate that is kept. Assumes nothing.
use Rattle.mend.proofs.Walks.{Dropped}
use Rattle.mend.proofs.next_kept.Given as goal

abbrev pub invariant-loop-i : goal.invariant-loop-i
invariant-loop-i l = Dropped l.ring l.end l.k l.i
