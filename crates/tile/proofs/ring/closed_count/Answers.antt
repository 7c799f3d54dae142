-- `ring::closed_count` meets its contract. Assumes nothing.
use mathlib.Core.Path.{sym, ◌∙◌, ap}
use Prim.Native.Nat.{ℕ, ◌+◌}
use Rattle.tile.proofs.Rings.{count-closed, count_open}
use Rattle.tile.proofs.ring.closed_count.Goals as goal

pub returns-then-is_closed : goal.returns-then-is_closed
returns-then-is_closed g c = c.count-n.ensures.all ∙ sym (count-closed (g.R.Coords.coords c.args.ring) (sym c.is_closed.ensures ∙ c.if-is_closed.true))

pub returns : goal.returns
returns g c = ap (λ (k : ℕ). k + 1) c.count-n.ensures.all
    ∙ sym (count_open (g.R.Coords.coords c.args.ring) (sym c.is_closed.ensures ∙ c.if-is_closed.false))
