-- `pairs::lesser` meets its contract: a pair that ends at the test of y does not cross. Assumes nothing.
use mathlib.Core.Path.{sym, ◌∙◌}
use Rattle.box_pairs.proofs.EdgeLaws.{never_meet, lesser_hit, lesser_miss, lesser-over}
use Rattle.box_pairs.proofs.pairs.lesser.Goals as goal

pub returns-then-crosses : goal.returns-then-crosses
returns-then-crosses c = let a = c.args in lesser_hit a.edges.now.ring.now a.i a.j a.best _ c.pair_number-number.ensures
    c.if-number-best.true (sym c.crosses.ensures ∙ c.if-crosses.true)

pub returns-else-crosses : goal.returns-else-crosses
returns-else-crosses c = let a = c.args in lesser_miss a.edges.now.ring.now a.i a.j a.best (sym c.crosses.ensures ∙ c.if-crosses.false)

pub returns-else-may_meet_in_y : goal.returns-else-may_meet_in_y
returns-else-may_meet_in_y c = let a = c.args in lesser_miss a.edges.now.ring.now a.i a.j a.best (never_meet _ _ _ (sym c.may_meet_in_y.ensures ∙ c.if-may_meet_in_y.false))

pub returns-else-number-best : goal.returns-else-number-best
returns-else-number-best c = let a = c.args in lesser-over a.edges.now.ring.now a.i a.j a.best _ c.pair_number-number.ensures c.if-number-best.false
