-- `box_with_rest` meets its contract. The invariant: the four numbers so far are no NaN, and their rectangle with the coordinates that are
-- left is that of all. Assumes nothing.
use mathlib.Core.Path.{◌≡◌, sym, ◌∙◌, ap}
use mathlib.Core.Bool.{true, false}
use Prim.Native.Nat.{◌+◌}
use native.Mathlib.Omega.{arith}
use lib.ListN.{get_or, drop}
use Rattle.tile.specs.Internal.{nowhere}
use Rattle.rings.specs.declared.rectangle.Rect.{Rect}
use Rattle.rings.specs.declared.rectangle.Rect.TheVariants as Rects
use Rattle.rings.specs.Rectangle.{is_finite_coord, with_coord, with_ring}
use Rattle.rings.proofs.Closing.{stays_ring}
use Rattle.rings.proofs.Rectangles.{ring-step, ring_end, box_then, box_stop, box_numbers}
use Rattle.rings.proofs.rectangle.box_with_rest.Goals as goal

pub returns-then-not-is_finite_coord : goal.returns-then-not-is_finite_coord
returns-then-not-is_finite_coord g c = let r = g.R.Coords.coords c.args.ring in
    let l = c.loop-i in
    let stop : is_finite_coord (get_or r l.i nowhere) ≡ false = ap is_finite_coord (sym c.coord.ensures)
    ∙ sym c.is_finite_coord.ensures ∙ c.if-not-is_finite_coord.true in
    let rest = drop (l.i + 1) r in sym (l.invariant.1 ∙ ring-step (Rects.Box l.west l.south l.east l.north) r l.i nowhere (omega (arith, c.count-i-end.ensures.all))
    ∙ ap (λ (x : Rect). with_ring x rest) (box_stop l.west l.south l.east l.north _ stop) ∙ stays_ring rest)

pub loop-i-preserved : goal.loop-i-preserved
loop-i-preserved g c = let r = g.R.Coords.coords c.args.ring in
    let l = c.loop-i in
    let p = c.coord-p.result in
    let f : get_or r l.i nowhere ≡ p = sym c.coord-p.ensures in
    let on : is_finite_coord p ≡ true = ap is_finite_coord (c.coord-p.ensures ∙ sym c.coord.ensures)
    ∙ sym c.is_finite_coord.ensures ∙ c.if-not-is_finite_coord.false in
    let box = Rects.Box c.lower-west.result c.lower-south.result c.higher-east.result
    c.higher-north.result in
    let q : with_coord (Rects.Box l.west l.south l.east l.north) (get_or r l.i nowhere) ≡ box =
    rw (
      f,
      c.lower-west.ensures,
      c.lower-south.ensures,
      c.higher-east.ensures,
      c.higher-north.ensures,
    ) (box_then l.west l.south l.east l.north p l.invariant.0 on) in (
      rw (
        c.lower-west.ensures,
        c.lower-south.ensures,
        c.higher-east.ensures,
        c.higher-north.ensures,
      ) (box_numbers l.west l.south l.east l.north p l.invariant.0 on),
      l.invariant.1 ∙ ring-step (Rects.Box l.west l.south l.east l.north) r l.i nowhere (omega (arith, c.count-i-end.ensures.all))
          ∙ ap (λ (x : Rect). with_ring x (drop (l.i + 1) r)) q,
    )

pub returns : goal.returns
returns g c = let l = c.loop-i in sym (l.invariant.1 ∙ ring_end (Rects.Box l.west l.south l.east l.north)
    (g.R.Coords.coords c.args.ring) l.i (omega (arith, c.count-i-end.ensures.all)))
