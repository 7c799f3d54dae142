-- `ring::close` meets its contract. Assumes nothing.
use mathlib.Core.Path.{sym, ◌∙◌}
use native.Mathlib.Omega.{arith}
use Rattle.tile.proofs.Rings.{written-closed, written_open}
use Rattle.tile.proofs.ring.close.Goals as goal

pub returns-then-is_closed : goal.returns-then-is_closed
returns-then-is_closed c = written-closed c.args.ring.now c.args.n (omega arith) (sym c.is_closed.ensures ∙ c.if-is_closed.true)

pub returns : goal.returns
returns c = let w = written_open c.args.ring.now c.args.n c.requires
    (sym c.is_closed.ensures
    ∙ c.if-is_closed.false) in
    rw (c.put.ensures, c.coord_at-first.ensures) w
