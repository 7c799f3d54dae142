-- `segments::side_of` meets its contract. Assumes nothing.
use Rattle.std.proofs.Common.{sym, ◌∙◌}
use Rattle.exact.proofs.SideLaws.{by_sums, on-left, on-right, on_neither}
use Rattle.exact.proofs.segments.side_of.Goals as goal

pub returns-then-is_less : goal.returns-then-is_less
returns-then-is_less c = let a = c.args in on-left a.a a.b a.c
    (sym (by_sums a.a a.b a.c _ _ _ c.is_less.ensures c.shoelace-back.ensures
    c.shoelace-there.ensures)
    ∙ c.if-is_less.true)

pub returns-then-is_less-2 : goal.returns-then-is_less-2
returns-then-is_less-2 c = let a = c.args in
    let t = c.shoelace-there.ensures in
    let u = c.shoelace-back.ensures in on-right a.a a.b a.c
    (sym (by_sums a.a a.b a.c _ _ _ c.is_less.ensures u t) ∙ c.if-is_less.false)
    (sym (by_sums a.b a.a a.c _ _ _ c.is_less-2.ensures t u) ∙ c.if-is_less-2.true)

pub returns : goal.returns
returns c = let a = c.args in
    let t = c.shoelace-there.ensures in
    let u = c.shoelace-back.ensures in on_neither a.a a.b a.c
    (sym (by_sums a.a a.b a.c _ _ _ c.is_less.ensures u t) ∙ c.if-is_less.false)
    (sym (by_sums a.b a.a a.c _ _ _ c.is_less-2.ensures t u) ∙ c.if-is_less-2.false)
