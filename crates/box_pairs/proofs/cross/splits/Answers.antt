-- `cross::splits` meets its contract. Assumes nothing.
use Rattle.box_pairs.specs.Cross.{splits}
use Rattle.box_pairs.proofs.cross.splits.Goals as goal

pub returns-then-above_below : goal.returns-then-above_below
unfolding splits
returns-then-above_below c = rw (
  ← c.cross_product_sign-side.ensures,
  ← c.cross_product_sign-other.ensures,
  ←
      c.above_below.ensures,
  c.if-above_below.true,
)

pub returns-else-above_below : goal.returns-else-above_below
unfolding splits
returns-else-above_below c = rw (
  ← c.cross_product_sign-side.ensures,
  ← c.cross_product_sign-other.ensures,
  ←
      c.above_below.ensures,
  c.if-above_below.false,
) c.above_below-else-above_below.ensures
