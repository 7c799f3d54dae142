-- `TileBounds::empty` meets its contract: 1 / 0 is the infinity. Assumes nothing.
use mathlib.Core.Path.{refl}
use lib.Ieee.{div, of_bits, neg}
use Rattle.tile.proofs.TileBounds.empty.Goals as goal

pub returns : goal.returns
unfolding div of_bits neg
returns c = refl
