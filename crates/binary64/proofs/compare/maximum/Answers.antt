-- `compare::maximum` meets its contract: each return rewrites the definition by the tests that led there. Assumes nothing.
use Rattle.binary64.specs.Compare as Compare
use Rattle.binary64.proofs.Comparisons.{ne_self}
use Rattle.binary64.proofs.compare.maximum.Goals as goal

pub returns-then-a-b : goal.returns-then-a-b
unfolding Compare.maximum
returns-then-a-b c = rw c.if-a-b.true

pub returns-then-a : goal.returns-then-a
unfolding Compare.maximum
returns-then-a c = rw (c.if-a-b.false, ← ne_self, c.if-a.true)

pub returns : goal.returns
unfolding Compare.maximum
returns c = rw (c.if-a-b.false, ← ne_self, c.if-a.false)
