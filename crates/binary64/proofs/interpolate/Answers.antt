-- `binary64::interpolate` is the definition, by computation. Assumes nothing.
use mathlib.Core.Path.{refl}
use Rattle.binary64.specs.Interpolation as Interpolation
use Rattle.binary64.proofs.interpolate.Goals as goal

pub returns : goal.returns
unfolding Interpolation.interpolate
returns c = refl
