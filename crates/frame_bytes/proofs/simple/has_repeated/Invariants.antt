-- `has_repeated` meets its contract: the verdict on the ring is that on what is left of it, and p is the first coordinate of that. Assumes
-- nothing.
use mathlib.Core.Path.{◌≡◌}
use lib.ListN.{get_or, drop}
use Rattle.tile.specs.Ring.{close}
use Rattle.tile.specs.Internal.{nowhere}
use Rattle.box_pairs.specs.Internal.{repeated}
use Rattle.frame_bytes.proofs.simple.has_repeated.Given as goal

abbrev pub invariant-loop-k : goal.invariant-loop-k
invariant-loop-k g l = let c = g.R.Coords.coords l.ring in
    (l.p ≡ get_or c l.k nowhere) × (repeated (close c) ≡ repeated (drop l.k (close c)))
