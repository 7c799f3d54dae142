-- `with_ring` meets its contract: the first coordinate leaves a rectangle of four numbers that are no NaN, or one that is not finite.
-- Assumes nothing.
use mathlib.Core.Path.{sym, ◌∙◌, ap, subst}
use native.Mathlib.Omega.{arith}
use lib.ListN.{drop}
use Rattle.tile.specs.Internal.{nowhere}
use Rattle.rings.specs.declared.rectangle.Rect.{Rect}
use Rattle.rings.specs.Rectangle.{with_coord, with_ring}
use Rattle.rings.proofs.Closing.{Holds, holds_new, stays_ring}
use Rattle.rings.proofs.Rectangles.{ring-step, ring_end, corners_numbers}
use Rattle.rings.proofs.rectangle.with_ring.Goals as goal

pub returns-then-count-eq0 : goal.returns-then-count-eq0
returns-then-count-eq0 g c = sym (ring_end c.args.r (g.R.Coords.coords c.args.ring) 0 (omega (arith, c.count.ensures.all, c.if-count-eq0.true)))

pub box_with_rest-requires : goal.box_with_rest-requires
box_with_rest-requires g c = let p = c.coord.result in
    corners_numbers p _ _ _ _ (subst (Holds p) (sym c.with_coord.ensures ∙ c.in-Box.is) (holds_new p c.args.r))

pub returns-in-Nothing : goal.returns-in-Nothing
returns-in-Nothing g c = let p = c.coord.result in absurd (subst (Holds p) (sym c.with_coord.ensures ∙ c.in-Nothing.is)
    (holds_new p c.args.r))

pub returns-in-NotFinite : goal.returns-in-NotFinite
returns-in-NotFinite g c = let ring = g.R.Coords.coords c.args.ring in
    let first = ap (with_coord c.args.r) (sym c.coord.ensures) ∙ sym c.with_coord.ensures in
    sym (ring-step c.args.r ring 0 nowhere (omega (arith, c.count.ensures.all, c.if-count-eq0.false))
    ∙ ap (λ (r : Rect). with_ring r (drop 1 ring)) (first ∙ c.in-NotFinite.is) ∙ stays_ring (drop 1 ring))

pub returns-in-Box : goal.returns-in-Box
returns-in-Box g c = let ring = g.R.Coords.coords c.args.ring in
    let first = ap (with_coord c.args.r) (sym c.coord.ensures) ∙ sym c.with_coord.ensures in
    sym (ring-step c.args.r ring 0 nowhere (omega (arith, c.count.ensures.all, c.if-count-eq0.false))
    ∙ ap (λ (r : Rect). with_ring r (drop 1 ring)) (first ∙ c.in-Box.is) ∙ sym c.box_with_rest.ensures)
