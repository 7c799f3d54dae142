-- `compare::minimum` meets its contract: each return rewrites the definition by the tests that led there. Assumes nothing.
use Rattle.binary64.specs.Compare as Compare
use Rattle.binary64.proofs.Comparisons.{ne_self}
use Rattle.binary64.proofs.compare.minimum.Goals as goal

pub returns-then-b-a : goal.returns-then-b-a
unfolding Compare.minimum
returns-then-b-a c = rw c.if-b-a.true

pub returns-then-a : goal.returns-then-a
unfolding Compare.minimum
returns-then-a c = rw (c.if-b-a.false, ← ne_self, c.if-a.true)

pub returns : goal.returns
unfolding Compare.minimum
returns c = rw (c.if-b-a.false, ← ne_self, c.if-a.false)
