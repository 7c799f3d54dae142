-- `cross::crosses_in_floats` meets its contract: each way out by its law. Assumes nothing.
use mathlib.Core.Path.{◌≡◌, sym, ◌∙◌}
use mathlib.Core.Bool.{true}
use Rattle.box_pairs.specs.Cross.{intersect_properly}
use Rattle.box_pairs.proofs.FloatCrossing.{apart_x, apart_y, not_properly, properly}
use Rattle.box_pairs.proofs.cross.crosses_in_floats.Goals as goal

pub returns-then-is_apart : goal.returns-then-is_apart
returns-then-is_apart c = let a = c.args in sym (apart_y a.a1 a.a2 a.b1 a.b2 (sym c.is_apart.ensures ∙ c.if-is_apart.true))

pub returns-then-is_apart-2 : goal.returns-then-is_apart-2
returns-then-is_apart-2 c = let a = c.args in sym (apart_x a.a1 a.a2 a.b1 a.b2 (sym c.is_apart-2.ensures ∙ c.if-is_apart-2.true))

pub returns-then-is_degenerate : goal.returns-then-is_degenerate
returns-then-is_degenerate c = let a = c.args in
    let p : intersect_properly a.a1 a.a2 a.b1 a.b2 ≡ true =
    sym c.edges_intersect_properly.ensures ∙ c.if-edges_intersect_properly.true in sym (properly a.a1 a.a2 a.b1 a.b2 p (sym c.is_apart-2.ensures
    ∙ c.if-is_apart-2.false)
    (sym c.is_apart.ensures
    ∙ c.if-is_apart.false)
    ∙ rw (← c.is_degenerate.ensures, c.if-is_degenerate.true))

pub returns-then-edges_intersect_properly : goal.returns-then-edges_intersect_properly
returns-then-edges_intersect_properly c = let a = c.args in
    let p : intersect_properly a.a1 a.a2 a.b1 a.b2 ≡ true =
    sym c.edges_intersect_properly.ensures ∙ c.if-edges_intersect_properly.true in sym (properly a.a1 a.a2 a.b1 a.b2 p
    (sym c.is_apart-2.ensures ∙ c.if-is_apart-2.false)
    (sym c.is_apart.ensures
    ∙ c.if-is_apart.false)
    ∙ rw (← c.is_degenerate.ensures, c.if-is_degenerate.false, ← c.is_degenerate-then-edges_intersect_properly.ensures))

pub returns : goal.returns
returns c = let a = c.args in sym (not_properly a.a1 a.a2 a.b1 a.b2 (sym c.edges_intersect_properly.ensures ∙ c.if-edges_intersect_properly.false))
