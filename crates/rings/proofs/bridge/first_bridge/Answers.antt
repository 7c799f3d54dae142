-- `first_bridge` meets its contract. The invariant: the first bridge of all is that of the edges that are left. Assumes nothing.
use mathlib.Core.Path.{◌≡◌, sym, ◌∙◌, ap₂}
use Prim.Native.Nat.{◌+◌, ◌-◌}
use native.Mathlib.Omega.{arith}
use Rattle.tile.specs.Internal.{nowhere}
use Rattle.rings.specs.Bridge.{bridge_of}
use Rattle.rings.proofs.Walks.{bridge_here, bridge_later, bridge_none}
use Rattle.rings.proofs.bridge.first_bridge.Goals as goal

pub returns-in-Some : goal.returns-in-Some
returns-in-Some g c = let k = c.loop-k.k in
    let e = ap₂ (bridge_of c.args.bounds) (sym c.coord.ensures) (sym c.coord-in-loop-k.ensures) ∙ sym c.in-Some.ensures in
    sym (c.loop-k.invariant ∙ bridge_here c.args.bounds (g.R.Coords.coords c.args.ring) (k - 1) k nowhere (omega arith)
    (omega (arith, c.count-k-end.ensures.all)) _ e)

pub loop-k-preserved : goal.loop-k-preserved
loop-k-preserved g c = let k = c.loop-k.k in
    let e = ap₂ (bridge_of c.args.bounds) (sym c.coord.ensures) (sym c.coord-in-loop-k.ensures) ∙ sym c.in_default.ensures in
    let next : k + 1 - 1 ≡ k = omega arith in
    rw next (c.loop-k.invariant ∙ bridge_later c.args.bounds (g.R.Coords.coords c.args.ring) (k - 1) k nowhere (omega arith)
    (omega (arith, c.count-k-end.ensures.all)) e)

pub returns : goal.returns
returns g c = sym (c.loop-k.invariant ∙ bridge_none c.args.bounds (g.R.Coords.coords c.args.ring) (c.loop-k.k - 1)
    (omega (arith, c.count-k-end.ensures.all)))
