-- `first_repeated` meets its contract: the first place in the ring is that in what is left of it. Assumes nothing.
use mathlib.Core.Path.{◌≡◌}
use Prim.Native.Nat.{◌≤◌}
use lib.ListN.{drop}
use Rattle.tile.specs.Ring.{coords}
use Rattle.box_pairs.specs.Issue.{repeated_from}
use Rattle.box_pairs.proofs.first_repeated.Given as goal

abbrev pub invariant-loop-k : goal.invariant-loop-k
invariant-loop-k l = (l.k ≤ l.n) × (repeated_from 0 (coords l.ring) ≡ repeated_from l.k (drop l.k (coords l.ring)))
