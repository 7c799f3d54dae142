-- `compare::lower` meets its contract. Assumes nothing.
use Rattle.binary64.specs.Internal.{lower}
use Rattle.binary64.proofs.compare.lower.Goals as goal

pub returns-then-b-a : goal.returns-then-b-a
unfolding lower
returns-then-b-a c = rw c.if-b-a.true

pub returns : goal.returns
unfolding lower
returns c = rw c.if-b-a.false
