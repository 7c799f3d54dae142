-- `cross::edges_intersect_properly` meets its contract. Assumes nothing.
use Rattle.box_pairs.specs.Cross.{intersect_properly}
use Rattle.box_pairs.proofs.cross.edges_intersect_properly.Goals as goal

pub returns-then-splits : goal.returns-then-splits
unfolding intersect_properly
returns-then-splits c = rw (← c.splits.ensures, c.if-splits.true) c.splits-then-splits.ensures

pub returns-else-splits : goal.returns-else-splits
unfolding intersect_properly
returns-else-splits c = rw (← c.splits.ensures, c.if-splits.false)
