-- `polygon_rect_all_rings` meets its contract. The invariant: the rectangle so far, with the rings that are left, is that of all. Assumes
-- nothing.
use mathlib.Core.Path.{sym, ◌∙◌}
use Rattle.rings.proofs.LentRings.{rect_step, rect_end}
use Rattle.rings.proofs.lent.polygon_rect_all_rings.Goals as goal

pub loop-ring-preserved : goal.loop-ring-preserved
loop-ring-preserved c = (tt, tt, c.loop-ring.invariant.2 ∙ rw c.with_ring-rect.ensures (rect_step _ _ _ c.in-Some.ensures.steps c.loop-ring.rect))

pub returns : goal.returns
returns c = sym (c.loop-ring.invariant.2 ∙ rect_end _ c.in-None.ensures.steps.0 c.loop-ring.rect)
