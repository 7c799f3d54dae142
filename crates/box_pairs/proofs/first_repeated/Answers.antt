-- `first_repeated` meets its contract: the first place in the ring is that in what is left of it. Assumes nothing.
use mathlib.Core.Path.{◌≡◌, sym, ◌∙◌}
use Prim.Native.Nat.{◌+◌}
use native.Mathlib.Omega.{arith}
use Rattle.tile.specs.Internal.{coord_at}
use Rattle.box_pairs.specs.Cross.{degenerate}
use Rattle.box_pairs.proofs.Issues.{repeated-next, repeated_end}
use Rattle.box_pairs.proofs.first_repeated.Goals as goal
use Rattle.box_pairs.proofs.first_repeated.Goals.{After-is_degenerate}

-- the verdict on the neighbours k and k + 1
verdict : (c : After-is_degenerate)
    → c.is_degenerate.result ≡ degenerate
    (coord_at c.args.ring.now c.loop-k.k)
    (coord_at c.args.ring.now (c.loop-k.k + 1))
verdict c = c.is_degenerate.ensures ∙ rw (c.coord_at-p.ensures, c.coord_at-q.ensures)

pub returns-then-is_degenerate : goal.returns-then-is_degenerate
returns-then-is_degenerate c = let l = c.loop-k in sym (l.invariant.1 ∙ repeated-next c.args.ring.now l.k
    (omega (arith, c.loop-k-test.true, c.saturating_sub-k-end.ensures)) ∙ rw (← verdict (goal.at.returns-then-is_degenerate c).After-is_degenerate, c.if-is_degenerate.true))

pub loop-k-preserved : goal.loop-k-preserved
loop-k-preserved c = let l = c.loop-k in (
  omega (arith, c.loop-k-test.true, c.saturating_sub-k-end.ensures),
  l.invariant.1 ∙ repeated-next c.args.ring.now l.k
      (omega (arith, c.loop-k-test.true, c.saturating_sub-k-end.ensures)) ∙ rw (← verdict (goal.at.loop-k-preserved c).After-is_degenerate, c.if-is_degenerate.false),
)

pub returns : goal.returns
returns c = let l = c.loop-k in sym (l.invariant.1 ∙ repeated_end c.args.ring.now l.k (omega (arith, c.loop-k-test.false, c.saturating_sub-k-end.ensures)))
