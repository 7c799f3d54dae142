-- `slices_agree` meets its contract. Assumes nothing.
use mathlib.Core.Path.{◌∙◌}
use Rattle.replay.specs.Calls as Calls
use Rattle.replay.proofs.Compared.{all_mapped}
use Rattle.replay.proofs.lent.slices_agree.Goals as goal

pub returns-then-not-are_all : goal.returns-then-not-are_all
unfolding Calls.slices_agree
returns-then-not-are_all g c =
    let each = g.met.T.Lent.each in
    let all = all_mapped g.T.Lent.bits _ _ _ _ _ (each c.args.scratch.now) c.cleared_unless.ensures c.are_all.ensures in
    rw (all ∙ c.if-not-are_all.true)

pub returns : goal.returns
unfolding Calls.slices_agree
returns g c =
    let each = g.met.T.Lent.each in
    let all = all_mapped g.T.Lent.bits _ _ _ _ _ (each c.args.scratch.now) c.cleared_unless.ensures c.are_all.ensures in
    rw (all ∙ c.if-not-are_all.false, each c.args.out.now, each c.args.expected.now) c.holds.ensures
