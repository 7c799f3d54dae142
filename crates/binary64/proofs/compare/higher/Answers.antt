-- `compare::higher` meets its contract. Assumes nothing.
use Rattle.binary64.specs.Internal.{higher}
use Rattle.binary64.proofs.compare.higher.Goals as goal

pub returns-then-a-b : goal.returns-then-a-b
unfolding higher
returns-then-a-b c = rw c.if-a-b.true

pub returns : goal.returns
unfolding higher
returns c = rw c.if-a-b.false
