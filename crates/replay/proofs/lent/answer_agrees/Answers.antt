-- `answer_agrees` meets its contract: 7.25 has the mark's bits. Assumes nothing.
use borrow.Author.Tests.{eq-eqb, ne_eqb}
use lib.Ieee.{of_bits, to_bits}
use Rattle.replay.specs.Calls as Calls
use Rattle.replay.proofs.lent.answer_agrees.Goals as goal

pub returns-then-given-code : goal.returns-then-given-code
unfolding Calls.answer_agrees
returns-then-given-code c = rw (ne_eqb _ _ c.if-given-code.true)

pub returns : goal.returns
unfolding Calls.answer_agrees of_bits to_bits
returns c = rw (eq-eqb _ _ c.if-given-code.false) (rw c.is_refusal.ensures at c.slices_agree.ensures)
