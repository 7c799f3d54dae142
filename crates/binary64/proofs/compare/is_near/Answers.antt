-- `compare::is_near` meets its contract: a magnitude below 1e-10 is a number between -1e-10 and 1e-10. Assumes nothing.
use Rattle.binary64.specs.Compare as Compare
use Rattle.binary64.proofs.Comparisons.{tolerance-bits, near-test}
use Rattle.binary64.proofs.compare.is_near.Goals as goal

pub returns-then-d : goal.returns-then-d
unfolding Compare.near
returns-then-d c = rw (← near-test, tolerance-bits, c.if-d.true)

pub returns-else-d : goal.returns-else-d
unfolding Compare.near
returns-else-d c = rw (← near-test, tolerance-bits, c.if-d.false)
