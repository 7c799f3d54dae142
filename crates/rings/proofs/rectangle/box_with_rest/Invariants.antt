-- `box_with_rest` meets its contract. The invariant: the four numbers so far are no NaN, and their rectangle with the coordinates that are
-- left is that of all. Assumes nothing.
use mathlib.Core.Path.{◌≡◌}
use lib.ListN.{drop}
use Rattle.rings.specs.declared.rectangle.Rect.TheVariants as Rects
use Rattle.rings.specs.Rectangle.{with_ring}
use Rattle.rings.specs.Internal.{Numbers}
use Rattle.rings.proofs.rectangle.box_with_rest.Given as goal

abbrev pub invariant-loop-i : goal.invariant-loop-i
invariant-loop-i g l = Numbers l.west l.south l.east l.north × (with_ring (Rects.Box l.w l.s l.e l.n) (drop 1 (g.R.Coords.coords l.ring))
    ≡ with_ring (Rects.Box l.west l.south l.east l.north) (drop l.i (g.R.Coords.coords l.ring)))
