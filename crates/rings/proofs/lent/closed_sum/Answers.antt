-- `closed_sum` meets its contract. The invariant: the count so far, with that of the rings that are left, is that of all. Assumes nothing.
use native.Mathlib.Omega.{arith}
use lib.ListN.{length}
use Rattle.rings.proofs.LentRings.{total-step, total_end, closed_most}
use Rattle.rings.proofs.lent.closed_sum.Goals as goal

pub overflow_add-count : goal.overflow_add-count
overflow_add-count c = let r = c.args.rings in omega (
  arith,
  c.loop-ring.invariant.2,
  c.closed_count-count.ensures,
  total-step _ _ _ c.in-Some.ensures.steps length,
  closed_most r.lengths.now r.coords.now r.lent.fits,
  r.lent.few,
  r.lent.fits,
  c.ranges.rings,
)

pub loop-ring-preserved : goal.loop-ring-preserved
loop-ring-preserved c =
    (tt, tt, omega (arith, c.loop-ring.invariant.2, c.closed_count-count.ensures, total-step _ _ _ c.in-Some.ensures.steps length))

pub returns : goal.returns
returns c = omega (arith, c.loop-ring.invariant.2, total_end _ c.in-None.ensures.steps.0 length)
