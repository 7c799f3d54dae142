-- `half_growth` meets its contract. Assumes nothing.
use mathlib.Core.Path.{refl}
use Rattle.edge_pass.specs.Growth.{half_growth}
use Rattle.sutherland_hodgman.proofs.growth.half_growth.Goals as goal

pub returns : goal.returns
unfolding half_growth
returns c = refl
