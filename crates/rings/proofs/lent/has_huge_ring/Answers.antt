-- `has_huge_ring` meets its contract. The invariant: a ring that is left is huge if one of all is. Assumes nothing.
use mathlib.Core.Path.{sym, ◌∙◌}
use Rattle.rings.proofs.LentRings.{huge-step, huge_end}
use Rattle.rings.proofs.lent.has_huge_ring.Goals as goal

pub returns-then-has_huge : goal.returns-then-has_huge
returns-then-has_huge c = sym (c.loop-ring.invariant.2 ∙ huge-step _ _ _ c.in-Some.ensures.steps ∙ rw (← c.has_huge.ensures, c.if-has_huge.true))

pub loop-ring-preserved : goal.loop-ring-preserved
loop-ring-preserved c = (tt, tt, c.loop-ring.invariant.2 ∙ huge-step _ _ _ c.in-Some.ensures.steps ∙ rw (← c.has_huge.ensures, c.if-has_huge.false))

pub returns : goal.returns
returns c = sym (c.loop-ring.invariant.2 ∙ huge_end _ c.in-None.ensures.steps.0)
