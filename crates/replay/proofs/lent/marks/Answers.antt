-- `marks` meets its contract. Assumes nothing.
use mathlib.Core.Path.{ap}
use lib.ListN.{replicate}
use Rattle.replay.specs.Lent.{most_lent}
use Rattle.replay.proofs.lent.marks.Goals as goal

pub returns : goal.returns
returns g c = ap (replicate most_lent) c.mark.ensures
