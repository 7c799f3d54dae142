-- `first_bridge` meets its contract. The invariant: the first bridge of all is that of the edges that are left. Assumes nothing.
use mathlib.Core.Path.{◌≡◌}
use Prim.Native.Nat.{◌-◌}
use lib.ListN.{drop}
use Rattle.rings.specs.Bridge.{first_bridge}
use Rattle.rings.proofs.bridge.first_bridge.Given as goal

abbrev pub invariant-loop-k : goal.invariant-loop-k
invariant-loop-k g l = first_bridge l.bounds (g.R.Coords.coords l.ring) ≡ first_bridge l.bounds (drop (l.k - 1) (g.R.Coords.coords l.ring))
