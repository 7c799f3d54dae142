-- `pairs::pair_number` meets its contract. Assumes nothing.
use mathlib.Core.Path.{sym}
use Rattle.box_pairs.proofs.First.{number_up, number_down}
use Rattle.box_pairs.proofs.pairs.pair_number.Goals as goal

pub returns-then-i-j : goal.returns-then-i-j
returns-then-i-j c = sym (number_up c.args.i c.args.j c.if-i-j.true)

pub returns : goal.returns
returns c = sym (number_down c.args.i c.args.j c.if-i-j.false)
