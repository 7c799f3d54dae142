-- `write_kept` meets its contract: it goes from one that is kept to the next. Assumes nothing.
use Prim.Native.Nat.{◌-◌}
use Rattle.mend.proofs.Walks.{Writing}
use Rattle.mend.proofs.write_kept.Given as goal

abbrev pub invariant-loop-k : goal.invariant-loop-k
invariant-loop-k l = Writing l.ring l.end l.closing l.initial.out l.out l.kept l.k

abbrev pub decreases-loop-k : goal.decreases-loop-k
decreases-loop-k l = l.end - l.k
