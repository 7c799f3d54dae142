-- `closing_coord` meets its contract: a ring that is closed keeps its count. Assumes nothing.
use native.Mathlib.Omega.{arith}
use Rattle.tile.proofs.Rings.{count-coords}
use Rattle.mend.proofs.Walks.{closed_own, closed_first}
use Rattle.mend.proofs.closing_coord.Goals as goal

pub overflow_sub-n : goal.overflow_sub-n
overflow_sub-n c = omega (arith, c.requires.0, count-coords c.args.ring.now)

pub coord_at-requires : goal.coord_at-requires
coord_at-requires c = omega (arith, c.requires.0, count-coords c.args.ring.now)

pub coord_at-requires-2 : goal.coord_at-requires-2
coord_at-requires-2 c = omega (arith, c.requires.0, count-coords c.args.ring.now)

pub returns-then-m-n : goal.returns-then-m-n
returns-then-m-n c = rw c.coord_at.ensures (closed_own c.args.ring.now c.args.m c.requires.0 c.requires.1 c.if-m-n.true)

pub returns : goal.returns
returns c = rw c.coord_at-2.ensures (closed_first c.args.ring.now c.args.m c.requires.0 c.requires.1 c.if-m-n.false)
