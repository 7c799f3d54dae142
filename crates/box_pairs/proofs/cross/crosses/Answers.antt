-- `cross::crosses` meets its contract. Assumes nothing.
use mathlib.Core.Path.{sym, ◌∙◌}
use Rattle.box_pairs.proofs.Crossing.{answered, not-in_floats, by_exact}
use Rattle.box_pairs.proofs.cross.crosses.Goals as goal

pub returns-then-crosses_in_floats-clause-test : goal.returns-then-crosses_in_floats-clause-test
returns-then-crosses_in_floats-clause-test c = let a = c.args in let all = answered a.a1 a.a2 a.b1 a.b2 _
    (c.may_share_point.ensures.test
    ∙ sym (by_exact a.a1 a.a2 a.b1 a.b2 (sym c.crosses_in_floats.ensures ∙ c.if-crosses_in_floats.true))) in all.0

pub returns-clause-test : goal.returns-clause-test
returns-clause-test c = let a = c.args in let all = answered a.a1 a.a2 a.b1 a.b2 _
    (sym (not-in_floats a.a1 a.a2 a.b1 a.b2 (sym c.crosses_in_floats.ensures ∙ c.if-crosses_in_floats.false))) in all.0
