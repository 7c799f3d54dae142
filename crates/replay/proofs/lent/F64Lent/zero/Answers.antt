-- 0 has no bit set. Assumes nothing.
use mathlib.Core.Path.{refl}
use lib.Ieee.{of_bits, to_bits}
use Rattle.replay.proofs.lent.F64Lent.zero.Goals as goal

pub returns : goal.returns
unfolding of_bits to_bits
returns c = refl
