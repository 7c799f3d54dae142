-- `has_huge` meets its contract. The invariant: the verdict on all is that on the coordinates that are left. Assumes nothing.
use mathlib.Core.Path.{◌≡◌}
use lib.ListN.{drop}
use Rattle.rings.specs.Representable.{any_huge}
use Rattle.rings.proofs.representable.has_huge.Given as goal

abbrev pub invariant-loop-i : goal.invariant-loop-i
invariant-loop-i g l = any_huge (g.R.Coords.coords l.ring) ≡ any_huge (drop l.i (g.R.Coords.coords l.ring))
