-- `lent_count` meets its contract. Assumes nothing.
use borrow.Author.Rules.{rules}
use Rattle.std.proofs.iter.runs.Sources.{sums}
use Rattle.rings.proofs.LentRings.{sum_std}
use Rattle.rings.proofs.lent.lent_count.Goals as goal

pub returns : goal.returns
returns c = rw (sum_std c.args.lengths.now) (search (rules, sums))
