-- `slices::copy` meets its contract. The invariant: the first i numbers are copied. Assumes nothing.
use lib.ListN.{take}
use Rattle.binary64.proofs.Fill.{Upto}
use Rattle.binary64.proofs.slices.copy.Given as goal

abbrev pub invariant-loop-i : goal.invariant-loop-i
invariant-loop-i l = Upto (take l.n l.from) l.initial.to l.i l.to
