-- `segments::is_left` meets its contract. Assumes nothing.
use Rattle.exact.specs.Segments.{is_left}
use Rattle.exact.proofs.segments.is_left.Goals as goal

pub returns : goal.returns
unfolding is_left
returns c = rw (← c.shoelace.ensures, ← c.shoelace-2.ensures) c.is_less.ensures
