-- `cross::is_degenerate` meets its contract. Assumes nothing.
use Rattle.box_pairs.specs.Cross.{degenerate}
use Rattle.box_pairs.proofs.cross.is_degenerate.Goals as goal

pub returns-then-is_near : goal.returns-then-is_near
unfolding degenerate
returns-then-is_near c = rw (← c.is_near.ensures, c.if-is_near.true) c.is_near-then-is_near.ensures

pub returns-else-is_near : goal.returns-else-is_near
unfolding degenerate
returns-else-is_near c = rw (← c.is_near.ensures, c.if-is_near.false)
