-- `cross::above_below` meets its contract. Assumes nothing.
use Rattle.box_pairs.specs.Cross.{above_below}
use Rattle.box_pairs.proofs.cross.above_below.Goals as goal

pub returns-then-d : goal.returns-then-d
unfolding above_below
returns-then-d c = rw c.if-d.true

pub returns-else-d : goal.returns-else-d
unfolding above_below
returns-else-d c = rw c.if-d.false
