-- `pairs::pair_of` meets its contract. Assumes nothing.
use borrow.Author.Tests.{eq-eqb, ne_eqb}
use Rattle.box_pairs.specs.Internal.{no_pair, pair_of}
use Rattle.box_pairs.proofs.pairs.pair_of.Goals as goal

pub returns-then-number-eq-NO_PAIR : goal.returns-then-number-eq-NO_PAIR
unfolding pair_of
returns-then-number-eq-NO_PAIR c = rw (eq-eqb c.args.number no_pair c.if-number-eq-NO_PAIR.true)

pub returns : goal.returns
unfolding pair_of
returns c = rw (ne_eqb c.args.number no_pair c.if-number-eq-NO_PAIR.false)
