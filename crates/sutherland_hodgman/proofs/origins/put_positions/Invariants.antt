-- `put_positions` meets its contract. Assumes nothing.
use Rattle.binary64.proofs.Fill.{Upto}
use Rattle.sutherland_hodgman.specs.Origins.{positions_from}
use Rattle.sutherland_hodgman.proofs.origins.put_positions.Given as goal

abbrev pub invariant-loop-i : goal.invariant-loop-i
invariant-loop-i l = Upto (positions_from 0 l.n) l.initial.origins l.i l.origins
