-- `previous` meets its contract. Assumes nothing.
use mathlib.Core.Path.{◌∙◌}
use native.Mathlib.Omega.{arith}
use Rattle.edge_pass.proofs.Walking.{first_before, later-before}
use Rattle.edge_pass.proofs.previous.Goals as goal

pub returns-then-i-eq0 : goal.returns-then-i-eq0
returns-then-i-eq0 c = c.coord_at.ensures ∙ first_before c.args.ring.now c.args.m c.requires.0 c.requires.1 c.args.i c.if-i-eq0.true

pub returns : goal.returns
returns c = c.coord_at-2.ensures ∙ later-before c.args.ring.now c.args.m c.requires.0 c.args.i (omega arith) c.requires.2
