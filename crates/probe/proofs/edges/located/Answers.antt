-- `edges::located` meets its contract. Assumes nothing.
use native.Mathlib.Omega.{arith}
use Rattle.probe.specs.Edges.{located}
use Rattle.probe.proofs.edges.located.Goals as goal

pub returns : goal.returns
unfolding located
returns c = omega arith
