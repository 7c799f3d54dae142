-- `has_repeated` meets its contract: the verdict on the ring is that on what is left of it, and p is the first coordinate of that. Assumes
-- nothing.
use mathlib.Core.Path.{refl, sym, ◌∙◌, ap₂}
use native.Mathlib.Omega.{arith}
use Rattle.tile.proofs.Rings.{close-most}
use Rattle.box_pairs.specs.Cross.{degenerate}
use Rattle.frame_bytes.proofs.SimpleExteriors.{repeated-next, repeated_end}
use Rattle.frame_bytes.proofs.simple.has_repeated.Goals as goal

pub coord-p-requires : goal.coord-p-requires
coord-p-requires g c = omega (arith, c.requires, close-most (g.R.Coords.coords c.args.ring))

pub coord-q-requires : goal.coord-q-requires
coord-q-requires g c = omega (arith, c.requires, c.loop-k-test.true, close-most (g.R.Coords.coords c.args.ring))

pub loop-k-init : goal.loop-k-init
loop-k-init g c = (c.coord-p.ensures, refl)

pub returns-then-is_degenerate : goal.returns-then-is_degenerate
returns-then-is_degenerate g c = let l = c.loop-k in
    let e = c.is_degenerate.ensures ∙ ap₂ degenerate l.invariant.0 c.coord-q.ensures in
    sym (l.invariant.1 ∙ repeated-next (g.R.Coords.coords c.args.ring) l.k (omega (arith, c.requires, c.loop-k-test.true))
    ∙ rw (← e, c.if-is_degenerate.true))

pub loop-k-preserved : goal.loop-k-preserved
loop-k-preserved g c = let l = c.loop-k in
    let e = c.is_degenerate.ensures ∙ ap₂ degenerate l.invariant.0 c.coord-q.ensures in (
      c.coord-q.ensures,
      l.invariant.1 ∙ repeated-next (g.R.Coords.coords c.args.ring) l.k (omega (arith, c.requires, c.loop-k-test.true))
          ∙ rw (← e, c.if-is_degenerate.false),
    )

pub returns : goal.returns
returns g c = sym (c.loop-k.invariant.1 ∙ repeated_end (g.R.Coords.coords c.args.ring) c.loop-k.k (omega (arith, c.requires, c.loop-k-test.false)))
