-- `has_huge` meets its contract. The invariant: the verdict on all is that on the coordinates that are left. Assumes nothing.
use mathlib.Core.Path.{sym, ◌∙◌, ap}
use native.Mathlib.Omega.{arith}
use Rattle.tile.specs.Internal.{nowhere}
use Rattle.rings.specs.Representable.{huge_coord}
use Rattle.rings.proofs.Walks.{huge-here, huge-later, huge-none}
use Rattle.rings.proofs.representable.has_huge.Goals as goal

pub returns-then-is_huge_coord : goal.returns-then-is_huge_coord
returns-then-is_huge_coord g c = let l = c.loop-i in
    let e = ap huge_coord (sym c.coord.ensures) ∙ sym c.is_huge_coord.ensures ∙ c.if-is_huge_coord.true in
    sym (l.invariant ∙ huge-here (g.R.Coords.coords c.args.ring) l.i nowhere (omega (arith, c.count-i-end.ensures.all)) e)

pub loop-i-preserved : goal.loop-i-preserved
loop-i-preserved g c = let l = c.loop-i in
    let e = ap huge_coord (sym c.coord.ensures) ∙ sym c.is_huge_coord.ensures ∙ c.if-is_huge_coord.false in
    l.invariant ∙ huge-later (g.R.Coords.coords c.args.ring) l.i nowhere (omega (arith, c.count-i-end.ensures.all)) e

pub returns : goal.returns
returns g c = sym (c.loop-i.invariant ∙ huge-none (g.R.Coords.coords c.args.ring) c.loop-i.i (omega (arith, c.count-i-end.ensures.all)))
