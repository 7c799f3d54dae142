-- `few_kept` meets its contract: the first, the second, the third and the closing one are four. Assumes nothing.
use Rattle.mend.proofs.Walks.{few-two, few_three}
use Rattle.mend.proofs.few_kept.Goals as goal

pub returns-then-second-end : goal.returns-then-second-end
returns-then-second-end c = few-two c.args.ring.now c.args.end c.requires.0 _ c.next_kept-second.ensures c.if-second-end.true

pub returns : goal.returns
returns c = few_three c.args.ring.now c.args.end c.requires.0 _ c.next_kept-second.ensures _ c.next_kept.ensures
