-- `grid::may_share_point` meets its contract. Assumes nothing.
use Rattle.std.proofs.Common.{sym, ◌∙◌}
use Rattle.exact.proofs.MayShareLaws.{first_off, second_off, third_off, fourth_off, all-on, answered}
use Rattle.exact.proofs.grid.may_share_point.Goals as goal

pub returns-in_default-clause-test : goal.returns-in_default-clause-test
returns-in_default-clause-test c = let a = c.args in let all = answered a.a1 a.a2 a.b1 a.b2 _
    (first_off a.a1 a.a2 a.b1 a.b2 (sym c.grid_point_of.ensures ∙ c.in_default.is)) in all.0

pub returns-in_default-clause-meaning : goal.returns-in_default-clause-meaning
returns-in_default-clause-meaning c = let a = c.args in let all = answered a.a1 a.a2 a.b1 a.b2 _
    (first_off a.a1 a.a2 a.b1 a.b2 (sym c.grid_point_of.ensures ∙ c.in_default.is)) in all.1

pub returns-in_default-grid_point_of-clause-test : goal.returns-in_default-grid_point_of-clause-test
returns-in_default-grid_point_of-clause-test c = let a = c.args in let all = answered a.a1 a.a2 a.b1 a.b2 _
    (second_off a.a1 a.a2 a.b1 a.b2 (sym c.grid_point_of-2.ensures ∙ c.in_default-grid_point_of.is)) in all.0

pub returns-in_default-grid_point_of-clause-meaning : goal.returns-in_default-grid_point_of-clause-meaning
returns-in_default-grid_point_of-clause-meaning c = let a = c.args in let all = answered a.a1 a.a2 a.b1 a.b2 _
    (second_off a.a1 a.a2 a.b1 a.b2 (sym c.grid_point_of-2.ensures ∙ c.in_default-grid_point_of.is)) in all.1

pub returns-in_default-grid_point_of-2-clause-test : goal.returns-in_default-grid_point_of-2-clause-test
returns-in_default-grid_point_of-2-clause-test c = let a = c.args in let all = answered a.a1
    a.a2 a.b1 a.b2 _ (third_off a.a1 a.a2 a.b1 a.b2 (sym c.grid_point_of-3.ensures
    ∙ c.in_default-grid_point_of-2.is)) in all.0

pub returns-in_default-grid_point_of-2-clause-meaning : goal.returns-in_default-grid_point_of-2-clause-meaning
returns-in_default-grid_point_of-2-clause-meaning c = let a = c.args in let all = answered a.a1
    a.a2 a.b1 a.b2 _ (third_off a.a1 a.a2 a.b1 a.b2 (sym c.grid_point_of-3.ensures
    ∙ c.in_default-grid_point_of-2.is)) in all.1

pub returns-in_default-grid_point_of-3-clause-test : goal.returns-in_default-grid_point_of-3-clause-test
returns-in_default-grid_point_of-3-clause-test c = let a = c.args in let all = answered a.a1 a.a2 a.b1 a.b2 _
    (fourth_off a.a1 a.a2 a.b1 a.b2 (sym c.grid_point_of-4.ensures ∙ c.in_default-grid_point_of-3.is)) in all.0

pub returns-in_default-grid_point_of-3-clause-meaning : goal.returns-in_default-grid_point_of-3-clause-meaning
returns-in_default-grid_point_of-3-clause-meaning c = let a = c.args in let all = answered a.a1 a.a2 a.b1 a.b2 _
    (fourth_off a.a1 a.a2 a.b1 a.b2 (sym c.grid_point_of-4.ensures ∙ c.in_default-grid_point_of-3.is)) in all.1

pub returns-clause-test : goal.returns-clause-test
returns-clause-test c = let a = c.args in let all = answered a.a1 a.a2 a.b1 a.b2 _
    (all-on a.a1 a.a2 a.b1 a.b2 _ _ _ _ _ c.shares_point.ensures
    (sym c.grid_point_of.ensures ∙ c.in-Some.is)
    (sym c.grid_point_of-2.ensures ∙ c.in-Some-grid_point_of.is)
    (sym c.grid_point_of-3.ensures ∙ c.in-Some-grid_point_of-2.is)
    (sym c.grid_point_of-4.ensures ∙ c.in-Some-grid_point_of-3.is)) in all.0

pub returns-clause-meaning : goal.returns-clause-meaning
returns-clause-meaning c = let a = c.args in let all = answered a.a1 a.a2 a.b1 a.b2 _
    (all-on a.a1 a.a2 a.b1 a.b2 _ _ _ _ _ c.shares_point.ensures
    (sym c.grid_point_of.ensures ∙ c.in-Some.is)
    (sym c.grid_point_of-2.ensures ∙ c.in-Some-grid_point_of.is)
    (sym c.grid_point_of-3.ensures ∙ c.in-Some-grid_point_of-2.is)
    (sym c.grid_point_of-4.ensures ∙ c.in-Some-grid_point_of-3.is)) in all.1
