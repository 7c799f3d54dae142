-- `ring::is_closed` meets its contract. Assumes nothing.
use mathlib.Core.Path.{sym, ◌∙◌, ap₂}
use native.Mathlib.Omega.{arith}
use Prim.Native.Nat.{◌-◌}
use Rattle.tile.specs.Ring.{same}
use Rattle.tile.specs.Internal.{nowhere}
use Rattle.tile.proofs.Rings.{closed_none, closed_at}
use Rattle.tile.proofs.ring.is_closed.Goals as goal

pub returns-then-n-eq0 : goal.returns-then-n-eq0
returns-then-n-eq0 g c = sym (closed_none _ (sym c.count-n.ensures.all ∙ c.if-n-eq0.true))

pub returns : goal.returns
unfolding same
returns g c = c.eq.ensures ∙ ap₂ same c.coord-first.ensures c.coord.ensures
    ∙ sym (closed_at (g.R.Coords.coords c.args.ring) (c.count-n.result - 1) nowhere (omega (arith, c.count-n.ensures.all, c.if-n-eq0.false)))
