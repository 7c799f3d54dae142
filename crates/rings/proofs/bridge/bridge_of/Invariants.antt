-- `bridge_of` meets its contract. The invariant: the edge runs along none of the bounds so far. Assumes nothing.
use mathlib.Core.Path.{◌≡◌}
use mathlib.Core.Bool.{false}
use Prim.Native.Nat.{ℕ, ◌<◌}
use lib.ListN.{get_or}
use Rattle.tile.specs.declared.Edge.TheVariants.{Left}
use Rattle.rings.specs.Bridge.{runs_along, edges}
use Rattle.rings.proofs.bridge.bridge_of.Given as goal

abbrev pub invariant-loop-edge : goal.invariant-loop-edge
invariant-loop-edge l = (k : ℕ) → k < l.edge-index → runs_along (get_or edges k Left) l.bounds l.p l.q ≡ false
