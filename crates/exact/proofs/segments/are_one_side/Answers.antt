-- `segments::are_one_side` meets its contract. Assumes nothing.
use Rattle.std.proofs.Common.{sym, ◌∙◌}
use Rattle.exact.proofs.SideLaws.{one_left, one_on, one_right}
use Rattle.exact.proofs.segments.are_one_side.Goals as goal

pub returns-in-Left : goal.returns-in-Left
returns-in-Left c = let a = c.args in c.is_left.ensures
    ∙ one_left a.a a.b a.c a.d (sym c.side_of.ensures ∙ c.in-Left.is)

pub returns-in-On : goal.returns-in-On
returns-in-On c = let a = c.args in one_on a.a a.b a.c a.d (sym c.side_of.ensures ∙ c.in-On.is)

pub returns-in-Right : goal.returns-in-Right
returns-in-Right c = let a = c.args in c.is_left-in-Right.ensures
    ∙ one_right a.a a.b a.c a.d (sym c.side_of.ensures ∙ c.in-Right.is)
