-- `segments::are_ranges_apart` meets its contract. Assumes nothing.
use Rattle.std.proofs.Common.{le-ltb, lt-ltb}
use Rattle.exact.specs.Segments.{ranges_apart}
use Rattle.exact.proofs.segments.are_ranges_apart.Goals as goal

pub returns-then-max-min : goal.returns-then-max-min
unfolding ranges_apart
returns-then-max-min c = rw (← c.max.ensures, ← c.min.ensures, lt-ltb _ _ c.if-max-min.true)

pub returns-else-max-min : goal.returns-else-max-min
unfolding ranges_apart
returns-else-max-min c = rw (
  ← c.max.ensures,
  ← c.min.ensures,
  ← c.max-else-max-min.ensures,
  ← c.min-else-max-min.ensures,
  le-ltb _ _ c.if-max-min.false,
)
