-- `compare::is_huge` meets its contract: a magnitude of 1e150 or more is a number from 1e150 up, or from -1e150 down. Assumes nothing.
use Rattle.binary64.specs.Compare as Compare
use Rattle.binary64.proofs.Comparisons.{limit_bits, huge-test}
use Rattle.binary64.proofs.compare.is_huge.Goals as goal

pub returns-then-x : goal.returns-then-x
unfolding Compare.huge
returns-then-x c = rw (← huge-test, limit_bits, c.if-x.true)

pub returns-else-x : goal.returns-else-x
unfolding Compare.huge
returns-else-x c = rw (← huge-test, limit_bits, c.if-x.false)
