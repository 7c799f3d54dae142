-- `is_same` meets its contract. Assumes nothing.
use mathlib.Core.Path.{sym}
use Rattle.ringcut.proofs.SameBytes.{pointwise-same}
use Rattle.ringcut.proofs.arguments.is_same.Goals as goal

pub returns : goal.returns
returns c = rw (sym (pointwise-same c.args.a.now c.args.b.now)) search
