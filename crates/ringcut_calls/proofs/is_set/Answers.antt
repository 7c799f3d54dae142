-- `is_set` meets its contract. Assumes nothing.
use mathlib.Core.Path.{refl}
use Rattle.ringcut_calls.specs.Flags.{is_set}
use Rattle.ringcut_calls.proofs.is_set.Goals as goal

pub returns : goal.returns
unfolding is_set
returns c = refl
