-- `lent_rings` meets its contract: each return is a case of the definition. Assumes nothing.
use native.Mathlib.Omega.{arith}
use Rattle.rings.proofs.LentRings.{sum_below}
use Rattle.slices.proofs.call.lent_rings.Goals as goal

pub overflow_mul-lent_count : goal.overflow_mul-lent_count
overflow_mul-lent_count c = let e = sum_below c.args.lengths.now (λ i. (c.type_inv.lengths i).fits) in
    omega (arith, e, c.lent_count.ensures, c.if-lengths-gt-MOST_RINGS.false)
