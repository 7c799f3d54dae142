-- `number_at` meets its contract: past the end a list has its default, the NaN, which is 0 / 0. Assumes nothing.
use mathlib.Core.Path.{sym}
use lib.Ieee.{nan, div, of_bits}
use lib.ListN.{get_or-eq_default}
use Rattle.probe.proofs.number_at.Goals as goal

pub returns : goal.returns
unfolding div of_bits
returns c = let h = c.if-i-s.false in sym (get_or-eq_default c.args.s.now nan h)
