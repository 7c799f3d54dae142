-- `cross::is_apart` meets its contract. Assumes nothing.
use Rattle.box_pairs.specs.Internal.{separate}
use Rattle.box_pairs.proofs.cross.is_apart.Goals as goal

pub returns : goal.returns
unfolding separate
returns c = rw (
  c.lower-high.ensures,
  c.higher-low.ensures,
  c.lower.ensures,
  c.lower-2.ensures,
  c.higher.ensures,
  c.higher-2.ensures,
)
